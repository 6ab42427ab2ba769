-- Text set into a list from a place on.
-- Assumes nothing.
use Prim.Native.Nat.{ℕ, suc, ◌+◌, ◌≤◌}
use native.Mathlib.Nat.{add-zero, zero-add}
use native.Mathlib.Omega.{arith}
use mathlib.Core.Path.{◌≡◌, refl, sym, ap, ◌∙◌}
use mathlib.Core.List.{List, [], ◌∷◌, ◌++◌, append_assoc}
use lib.ListN.{length, set, take, drop, length-append}
use lib.Seq.{sets, sets-eq, take_at}
use Rattle.text.specs.Lines.{space, spaced}
use Rattle.text.specs.Writes.{Writes}

sets_append : (xs ys t : List ℕ) (at : ℕ) → sets t at (xs ++ ys) ≡ sets (sets t at xs) (at + length xs) ys
sets_append [] ys t at = rw (add-zero at)
sets_append (x ∷ xs) ys t at =
    sets_append xs ys (set t at x) (suc at) ∙ ap (λ (k : ℕ). sets (sets (set t at x) (suc at) xs) k ys) (let e : suc at + length xs ≡ at + suc (length xs) = omega arith in e)

-- one text, and behind it another
pub writes_then : {t u v xs ys : List ℕ} {a b c : ℕ} → Writes t a xs u b → Writes u b ys v c → Writes t a (xs ++ ys) v c
writes_then {t} {u} {v} {xs} {ys} {a} {b} {c} p q =
    record {
      text = q.text ∙ rw (p.text, p.ends) (rw (sets_append xs ys t a));
      ends = q.ends ∙ rw p.ends (let e : (a + length xs) + length ys ≡ a + (length xs + length ys) = omega arith in rw (length-append xs ys) e);
    }

pub writes_nothing : (t : List ℕ) (a : ℕ) → Writes t a [] t a
writes_nothing t a = record { text = refl; ends = rw (add-zero a) }

-- a text that begins a list
pub sets-front : (t bytes : List ℕ) → length bytes ≤ length t → sets t 0 bytes ≡ bytes ++ drop (length bytes) t
sets-front t bytes h = rw (sets-eq bytes t 0 (rw (zero-add (length bytes)) h), zero-add (length bytes))

pub take-front : (t bytes : List ℕ) → length bytes ≤ length t → take (length bytes) (sets t 0 bytes) ≡ bytes
take-front t bytes h = rw (sets-front t bytes h) (take_at bytes (drop (length bytes) t) (length bytes) refl)

-- what a text that is written in parts still comes to, once the first is written
pub rest-next : {t u xs : List ℕ} {p r : ℕ} (ys : List ℕ) → Writes t p xs u r → (sets u r ys ≡ sets t p (xs ++ ys)) × (r + length ys ≡ p + length (xs ++ ys))
rest-next {t} {u} {xs} {p} {r} ys w =
    (rw (w.text, w.ends) (sym (sets_append xs ys t p)), rw w.ends (let e : (p + length xs) + length ys ≡ p + (length xs + length ys) = omega arith in rw (length-append xs ys) e))

-- a word behind a space, and then the rest of its line
pub writes-word : {t u v w : List ℕ} {a b c : ℕ} (ws : List (List ℕ)) → Writes t a (space ∷ w) u b → Writes u b (spaced ws ++ (10 ∷ [])) v c → Writes t a (spaced (w ∷ ws) ++ (10 ∷ [])) v c
writes-word {w = w} ws p q = rw (append_assoc w (spaced ws) (10 ∷ [])) (writes_then p q)
