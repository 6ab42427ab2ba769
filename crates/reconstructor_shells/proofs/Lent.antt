-- A place that holds a declared struct, a local or a field of one, is lent as `&mut` for a lifetime κ, and is back at the value that the reference had last. It says nothing of the crate, and can be copied as it stands.
--     lends    the place's cell ∗ what h owns  ⊢ ⇛ ∃ γ. own (the `&κ mut T` ((l, o), γ, h)) ∗ the lender's part
--     back     [†κ] ∗ the lender's part ∗ res γ h  ⊢ ⇛ (the place's cell at h's machine value ∗ what h owns)
-- Assumes `Logic`.
use Prim.Native.Nat.{ℕ}
use mathlib.Core.List.{List, [], ◌∷◌}
use seplogic.Ra.Ura.{Ura}
use base.Fraction.{full_share}
use mir.Syntax.{Ty, Lifetime}
use mir.Val.{Val}
use base.Logic.{ent, sep, ex}
use base.Fml.{Lft, GName, fat, fsep, fdead, flent, fres}
use types.Logic.{Logic, sem}
use types.Kit.{‵, later, ◌$◌, ◌∵◌, !, qed, by, use1, use3, fsplit, fjoin, fpick, fpack, await, updating, now as at_once, done}
use types.SemTy.{Body}
use denote.RattleType.{RattleType}
use denote.Laws.{Is, shows}
use denote.Memory.{cell_at, mem, lone, part_of}
use denote.Lend.{LentRef, lends_ref, ref_back}
use denote.Struct.Declared.{Declared, row}
use denote.Struct.Laws as LL
use denote.Struct.Steps.{spelt}

module _ (T : Declared) (L : LL.Laws T) where
  abbrev R : RattleType
  R = row T

  abbrev pub τ : Ty
  τ = lone R.mir

  module _ {M : Type 1} {𝓤 : Ura M} (𝓛 : Logic 𝓤) where
    open 𝓛 use {H, A}

    pub lends : (ℓ : Lifetime) (κ : Lft) (h : R.Denot) (l o : ℕ) (v : Val) → ent 𝓤 (sep 𝓤 (H.at full_share τ l o v) (sem 𝓛 (R.own_val h (v ∷ [])))) (H.⇛ (ex 𝓤 (LentRef 𝓛 R ℓ κ h l o)))
    unfolding part_of
    lends ℓ κ h l o v =
        qed 𝓛 (‵ (fat full_share τ l o v) ∷ ‵ (R.own_val h (v ∷ [])) ∷ []) ∵ use1 𝓛 (‵ (cell_at full_share R.mir (v ∷ []) l o)) (𝓛.laws.at_raw full_share τ l o v) $ fjoin ! $
        fpack ! (List Val) (λ us. fsep (cell_at full_share R.mir us l o) (R.own_val h us)) (v ∷ []) $ by ! (lends_ref 𝓛 R ℓ κ h l o)

    pub back : (κ : Lft) (γ : GName) (h : R.Denot) (l o : ℕ)
        → ent 𝓤 (sep 𝓤 (A.dead κ) (sep 𝓤 (A.lent κ (Body (mem R) l o γ)) (A.res γ (R.coded.code h)))) (H.⇛ (sep 𝓤 (H.at full_share τ l o (LL.val T L h)) (sem 𝓛 (R.own_val h (LL.vals T L h)))))
    unfolding part_of
    back κ γ h l o =
        qed 𝓛 (‵ (fdead κ) ∷ ‵ (flent κ (Body (mem R) l o γ)) ∷ ‵ (fres γ (R.coded.code h)) ∷ []) ∵ updating ! $ use3 𝓛 (later (‵ ((mem R).own_at h l o))) (ref_back 𝓛 R κ γ h l o) $ await ! tt $
        fpick ! (λ vs. fsplit ! $ spelt ! R (Is R) (shows 𝓛 R) (LL.vals T L) (LL.tells T L) full_share h vs l o $
        use1 𝓛 (‵ (fat full_share τ l o (LL.val T L h))) (𝓛.laws.raw_at full_share τ l o (LL.val T L h)) $ at_once ! $ done !)
