-- What is read and then encoded is the bytes.
-- Assumes nothing.
use Rattle.std.specs.Prelude.{Some, None}
use Prim.Native.Nat.{ℕ, zero, suc, ◌+◌, ◌*◌, ◌/◌, ◌%◌, ◌≤◌, ◌<◌}
use native.Mathlib.Omega.{arith}
use native.Mathlib.Nat.{div-div-eq-div-mul, add-zero, zero-add, suc-add}
use mathlib.Core.Path.{◌≡◌, refl, sym, ap, subst, ◌∙◌}
use mathlib.Core.List.{List, [], ◌∷◌, ◌++◌, append-nil, append_assoc}
use lib.Seq.{drop-cons, drop-drop}
use lib.ListN.{take-append-drop, drop_of_length-le, length, get_or, take, drop}
use native.Mathlib.Numerals.{add-one}
use mathlib.Core.Bool.{Bool, true, false, cond}
use borrow.Author.Tests.{eqb-true, eqb-false, leb-true, le-leb}
use lib.Dec.{eqb, leb}
use mir.Syntax.{w64}
use mir.Val.{of_z}
use mir.ValLaws.{to_z-Fits, of_z-to_z}
use Rattle.piece.specs.Piece.{bids_at, asks_at, snapshot_shaped, order_from, order_at, orders_from, word_at, amount_at, order_id_at, product_id_at, side_of, done_reason_of, change_reason_of, has_bit, optional_at, zero_unless, read_received, read_open, done_shaped, read_done, read_match, change_shaped, change_fields_at, change_of, read_change, read_unsupported, read_event}
use Rattle.piece.specs.Encode.{Snapshot, orders_bytes, snapshot_bytes, OrdersFit, SnapshotFits, order_id_bytes, product_id_bytes, amount_bytes, optional_bytes, present_bit, presence, side_byte, done_reason_byte, change_reason_byte, kind_byte, field_bytes, message_bytes, Id, Amount, Optional, EventFits, MessageFits}
use Rattle.piece.specs.Bytes.{AllBytes, little, big, little_bytes, big_bytes, part}
use Rattle.message.specs.declared.L3Side.TheVariants.{Buy, Sell}
use Rattle.message.specs.declared.DoneReason.TheVariants.{Filled, Canceled}
use Rattle.message.specs.declared.ChangeReason.TheVariants.{Stp, ModifyOrder}
use Rattle.message.specs.declared.L3Event.{L3Event}
use Rattle.message.specs.declared.L3Message.{L3Message}
use Rattle.message.specs.declared.SnapshotOrder.{SnapshotOrder}
use Rattle.piece.proofs.Numbers.{little-part, little-part-bound, big-part, big-part-bound}
use Rattle.laws.proofs.Bools.{and_yes}
use Rattle.piece.proofs.Shapes.{shaped, by_kind}

-- ---- a field's bytes ahead of the rest

drop-part : (s : List ℕ) (i k : ℕ) → part s i k ++ drop (i + k) s ≡ drop i s
unfolding part
drop-part s i k = ap (λ l. take k (drop i s) ++ l) (sym (drop-drop k i s)) ∙ take-append-drop k (drop i s)

byte-drop : (s : List ℕ) (i : ℕ) → i < length s → get_or s i 0 ∷ drop (i + 1) s ≡ drop i s
byte-drop s i h = rw add-one (sym (drop-cons s i 0 h))

-- a field ahead of the fields that follow it, a byte ahead of them, and the last field
onto : (s a b : List ℕ) (i j : ℕ) → a ++ drop j s ≡ drop i s → b ≡ drop j s → a ++ b ≡ drop i s
onto s a b i j h e = ap (λ l. a ++ l) e ∙ h

byte-onto : (s b : List ℕ) (x i : ℕ) → x ≡ get_or s i 0 → i < length s → b ≡ drop (i + 1) s → x ∷ b ≡ drop i s
byte-onto s b x i e h t = rw (e, t) (byte-drop s i h)

last : (s a : List ℕ) (i n : ℕ) → length s ≡ n → a ++ drop n s ≡ drop i s → a ≡ drop i s
last s a i n e h =
    let none : drop n s ≡ [] = drop_of_length-le s {i = n} (omega arith) in
    sym (append-nil a) ∙ ap (λ l. a ++ l) (sym none) ∙ h

module _ (s : List ℕ) (all : AllBytes s) where
  word-drop : (i k : ℕ) → i + k ≤ length s → little_bytes k (little (part s i k)) ++ drop (i + k) s ≡ drop i s
  word-drop i k h = rw (little-part s all i k h) (drop-part s i k)

  big-drop : (i : ℕ) → i + 8 ≤ length s → big_bytes 8 (big (part s i 8)) ++ drop (i + 8) s ≡ drop i s
  big-drop i h = rw (big-part s all i 8 h) (drop-part s i 8)

  id-drop : (i : ℕ) → i + 16 ≤ length s → order_id_bytes (order_id_at s i) ++ drop (i + 16) s ≡ drop i s
  unfolding order_id_at
  id-drop i h =
      let e : i + 16 ≡ i + 8 + 8 = omega arith in
      append_assoc (big_bytes 8 (big (part s i 8))) (big_bytes 8 (big (part s (i + 8) 8))) (drop (i + 16) s) ∙
      onto s (big_bytes 8 (big (part s i 8))) _ i (i + 8) (big-drop i (omega arith)) (rw e (big-drop (i + 8) (omega arith)))

  product-onto : (b : List ℕ) → 17 ≤ length s → b ≡ drop 17 s → product_id_bytes (product_id_at s 1) ++ b ≡ drop 1 s
  unfolding product_id_at
  product-onto b h q =
      append_assoc (big_bytes 8 (big (part s 1 8))) (big_bytes 8 (big (part s 9 8))) b ∙
      onto s (big_bytes 8 (big (part s 1 8))) _ 1 9 (big-drop 1 (omega arith))
      (onto s (big_bytes 8 (big (part s 9 8))) b 9 17 (big-drop 9 (omega arith)) q)

  word-onto : (i k : ℕ) (b : List ℕ) → i + k ≤ length s → b ≡ drop (i + k) s → little_bytes k (little (part s i k)) ++ b ≡ drop i s
  word-onto i k b h q = onto s (little_bytes k (little (part s i k))) b i (i + k) (word-drop i k h) q

  zero-onto : (i : ℕ) (b : List ℕ) → word_at s i ≡ 0 → i + 8 ≤ length s → b ≡ drop (i + 8) s → little_bytes 8 0 ++ b ≡ drop i s
  unfolding word_at
  zero-onto i b z h q = ap (λ n. little_bytes 8 n ++ b) (sym z) ∙ word-onto i 8 b h q

  amount-word : (i : ℕ) → i + 8 ≤ length s → of_z w64 (amount_at s i) ≡ little (part s i 8)
  unfolding amount_at word_at
  amount-word i h = of_z-to_z w64 (little (part s i 8)) (record { fits = little-part-bound s all i 8 h })

  amount-drop : (i : ℕ) → i + 8 ≤ length s → amount_bytes (amount_at s i) ++ drop (i + 8) s ≡ drop i s
  amount-drop i h = rw (amount-word i h) (word-drop i 8 h)

  optional-drop : (i : ℕ) (b : Bool) → zero_unless s b i ≡ true → i + 8 ≤ length s → optional_bytes (optional_at s b i) ++ drop (i + 8) s ≡ drop i s
  unfolding optional_at zero_unless word_at
  optional-drop i true z h = amount-drop i h
  optional-drop i false z h = zero-onto i (drop (i + 8) s) (eqb-true (little (part s i 8)) 0 z) h refl

  id-onto : (i : ℕ) (b : List ℕ) → i + 16 ≤ length s → b ≡ drop (i + 16) s → order_id_bytes (order_id_at s i) ++ b ≡ drop i s
  id-onto i b h e = onto s (order_id_bytes (order_id_at s i)) b i (i + 16) (id-drop i h) e

  amount-onto : (i : ℕ) (b : List ℕ) → i + 8 ≤ length s → b ≡ drop (i + 8) s → amount_bytes (amount_at s i) ++ b ≡ drop i s
  amount-onto i b h e = onto s (amount_bytes (amount_at s i)) b i (i + 8) (amount-drop i h) e

  amount-last : (i : ℕ) → length s ≡ i + 8 → amount_bytes (amount_at s i) ≡ drop i s
  amount-last i n = last s (amount_bytes (amount_at s i)) i (i + 8) n (amount-drop i (omega arith))

  optional-onto : (i : ℕ) (t : Bool) (b : List ℕ) → zero_unless s t i ≡ true → i + 8 ≤ length s → b ≡ drop (i + 8) s →
      optional_bytes (optional_at s t i) ++ b ≡ drop i s
  optional-onto i t b z h e = onto s (optional_bytes (optional_at s t i)) b i (i + 8) (optional-drop i t z h) e

  optional-last : (i : ℕ) (t : Bool) → zero_unless s t i ≡ true → length s ≡ i + 8 → optional_bytes (optional_at s t i) ≡ drop i s
  optional-last i t z n = last s (optional_bytes (optional_at s t i)) i (i + 8) n (optional-drop i t z (omega arith))

-- a byte that names one of two values
one_of_two : {A : Type 0} (byte_of : A → ℕ) (x y : A) (b : ℕ) → byte_of x ≡ 0 → byte_of y ≡ 1 → leb b 1 ≡ true → byte_of (cond (eqb b 0) x y) ≡ b
one_of_two byte_of x y b p q h = go (eqb b 0) refl
  where
    go : (t : Bool) → eqb b 0 ≡ t → byte_of (cond t x y) ≡ b
    go true w = p ∙ sym (eqb-true b 0 w)
    go false w = omega (arith, q, leb-true b 1 h, eqb-false b 0 w)

side-byte : (b : ℕ) → leb b 1 ≡ true → side_byte (side_of b) ≡ b
unfolding side_of
side-byte b h = one_of_two side_byte Buy Sell b refl refl h

done_reason-byte : (b : ℕ) → leb b 1 ≡ true → done_reason_byte (done_reason_of b) ≡ b
unfolding done_reason_of
done_reason-byte b h = one_of_two done_reason_byte Filled Canceled b refl refl h

change_reason-byte : (b : ℕ) → leb b 1 ≡ true → change_reason_byte (change_reason_of b) ≡ b
unfolding change_reason_of
change_reason-byte b h = one_of_two change_reason_byte Stp ModifyOrder b refl refl h

-- a field is present by its bit
bit_value : (s : List ℕ) (b w i : ℕ) → present_bit (optional_at s (has_bit b w) i) ≡ b / w % 2
unfolding optional_at has_bit
bit_value s b w i = go (eqb (b / w % 2) 1) refl
  where
    go : (t : Bool) → eqb (b / w % 2) 1 ≡ t → present_bit (cond t (Some (amount_at s i)) None) ≡ b / w % 2
    go true e = sym (eqb-true (b / w % 2) 1 e)
    go false e = omega (arith, eqb-false (b / w % 2) 1 e)

-- a byte below 64 is the sum of its six bits
halved : (b w : ℕ) → b / w % 2 + 2 * (b / (w * 2)) ≡ b / w
halved b w = rw (← div-div-eq-div-mul b w 2) (omega arith)

sum_of : (b₀ b₁ b₂ b₃ b₄ b₅ x₀ x₁ x₂ x₃ x₄ x₅ : ℕ) →
    b₀ + 2 * x₁ ≡ x₀ → b₁ + 2 * x₂ ≡ x₁ → b₂ + 2 * x₃ ≡ x₂ → b₃ + 2 * x₄ ≡ x₃ → b₄ + 2 * x₅ ≡ x₄ → b₅ + 2 * 0 ≡ x₅ →
    b₀ + 2 * (b₁ + 2 * (b₂ + 2 * (b₃ + 2 * (b₄ + 2 * (b₅ + 2 * 0))))) ≡ x₀
sum_of b₀ b₁ b₂ b₃ b₄ b₅ x₀ x₁ x₂ x₃ x₄ x₅ h₀ h₁ h₂ h₃ h₄ h₅ = omega arith

six-bits : (b : ℕ) → b ≤ 63 →
    b / 1 % 2 + 2 * (b / 2 % 2 + 2 * (b / 4 % 2 + 2 * (b / 8 % 2 + 2 * (b / 16 % 2 + 2 * (b / 32 % 2 + 2 * 0))))) ≡ b
six-bits b h =
    let whole : b / 1 ≡ b = omega arith in
    sum_of _ _ _ _ _ _ (b / 1) (b / 2) (b / 4) (b / 8) (b / 16) (b / 32)
    (halved b 1) (halved b 2) (halved b 4) (halved b 8) (halved b 16) (omega arith) ∙
    whole

-- ---- each kind

-- s holds the event e behind its header, and no more
record Stands (s : List ℕ) (e : L3Event) : Type 0 where
  long : 33 ≤ length s
  kind : kind_byte e ≡ get_or s 0 0
  fields : field_bytes e ≡ drop 33 s
  fits : EventFits e

module _ (s : List ℕ) (all : AllBytes s) where
  id-fits : (i : ℕ) → i + 16 ≤ length s → Id (order_id_at s i)
  unfolding order_id_at
  id-fits i h = (big-part-bound s all i 8 (omega arith), big-part-bound s all (i + 8) 8 (omega arith))

  amount-fits : (i : ℕ) → i + 8 ≤ length s → Amount (amount_at s i)
  unfolding amount_at word_at
  amount-fits i h = (to_z-Fits w64 (little (part s i 8)) (record { fits = little-part-bound s all i 8 h })).sfits

  optional-fits : (i : ℕ) (b : Bool) → i + 8 ≤ length s → Optional (optional_at s b i)
  unfolding optional_at
  optional-fits i true h = amount-fits i h
  optional-fits i false h = tt

module _ (s : List ℕ) (all : AllBytes s) (e : L3Event) where
  received-stands : eqb (get_or s 0 0) 1 ≡ true → read_received s ≡ Some e → Stands s e
  unfolding read_received
  received-stands k q =
      let h = shaped _ _ e q in
      let t = and_yes _ _ h.0 in
      let n = eqb-true (length s) 50 t.0 in
      subst (Stands s) h.1
      (record {
        long = omega arith;
        kind = sym (eqb-true (get_or s 0 0) 1 k);
        fields =
            id-onto s all 33 _ (omega arith)
            (byte-onto s _ _ 49 (side-byte _ t.1) (omega arith) (sym (drop_of_length-le s {i = 50} (omega arith))));
        fits = id-fits s all 33 (omega arith);
      })

  open-stands : eqb (get_or s 0 0) 2 ≡ true → read_open s ≡ Some e → Stands s e
  unfolding read_open
  open-stands k q =
      let h = shaped _ _ e q in
      let t = and_yes _ _ h.0 in
      let n = eqb-true (length s) 66 t.0 in
      subst (Stands s) h.1
      (record {
        long = omega arith;
        kind = sym (eqb-true (get_or s 0 0) 2 k);
        fields =
            id-onto s all 33 _ (omega arith)
            (byte-onto s _ _ 49 (side-byte _ t.1) (omega arith)
            (amount-onto s all 50 _ (omega arith) (amount-last s all 58 n)));
        fits = (id-fits s all 33 (omega arith), amount-fits s all 50 (omega arith), amount-fits s all 58 (omega arith));
      })

  done-stands : eqb (get_or s 0 0) 3 ≡ true → read_done s ≡ Some e → Stands s e
  unfolding read_done done_shaped
  done-stands k q =
      let h = shaped _ _ e q in
      let t = and_yes _ _ h.0 in
      let n = eqb-true (length s) 68 t.0 in
      let remaining = and_yes _ _ t.1 in
      let price = and_yes _ _ remaining.0 in
      let few = and_yes _ _ price.0 in
      let bytes = and_yes _ _ few.0 in
      let b = get_or s 59 0 in
      let bits : presence (optional_at s (has_bit b 1) 50 ∷ optional_at s (has_bit b 2) 60 ∷ []) ≡ b =
      rw (bit_value s b 1 50, bit_value s b 2 60) (omega (arith, leb-true b 3 few.1)) in
      subst (Stands s) h.1
      (record {
        long = omega arith;
        kind = sym (eqb-true (get_or s 0 0) 3 k);
        fields =
            id-onto s all 33 _ (omega arith)
            (byte-onto s _ _ 49 (side-byte _ bytes.0) (omega arith)
            (optional-onto s all 50 _ _ price.1 (omega arith)
            (byte-onto s _ _ 58 (done_reason-byte _ bytes.1) (omega arith)
            (byte-onto s _ _ 59 bits (omega arith) (optional-last s all 60 _ remaining.1 n)))));
        fits = (id-fits s all 33 (omega arith), optional-fits s all 50 _ (omega arith), optional-fits s all 60 _ (omega arith));
      })

  match-stands : eqb (get_or s 0 0) 4 ≡ true → read_match s ≡ Some e → Stands s e
  unfolding read_match
  match-stands k q =
      let h = shaped _ _ e q in
      let t = and_yes _ _ h.0 in
      let n = eqb-true (length s) 82 t.0 in
      subst (Stands s) h.1
      (record {
        long = omega arith;
        kind = sym (eqb-true (get_or s 0 0) 4 k);
        fields =
            id-onto s all 33 _ (omega arith)
            (id-onto s all 49 _ (omega arith)
            (byte-onto s _ _ 65 (side-byte _ t.1) (omega arith)
            (amount-onto s all 66 _ (omega arith) (amount-last s all 74 n))));
        fits = (id-fits s all 33 (omega arith), id-fits s all 49 (omega arith), amount-fits s all 66 (omega arith), amount-fits s all 74 (omega arith));
      })

  change-stands : eqb (get_or s 0 0) 5 ≡ true → read_change s ≡ Some e → Stands s e
  unfolding read_change change_shaped change_fields_at change_of
  change-stands k q =
      let h = shaped _ _ e q in
      let t = and_yes _ _ h.0 in
      let n = eqb-true (length s) 100 t.0 in
      let new_funds = and_yes _ _ t.1 in
      let new_price = and_yes _ _ new_funds.0 in
      let old_price = and_yes _ _ new_price.0 in
      let new_size = and_yes _ _ old_price.0 in
      let old_size = and_yes _ _ new_size.0 in
      let price = and_yes _ _ old_size.0 in
      let few = and_yes _ _ price.0 in
      let bytes = and_yes _ _ few.0 in
      let b = get_or s 51 0 in
      let bits :
      presence
      (optional_at s (has_bit b 1) 52 ∷
      optional_at s (has_bit b 2) 60 ∷
      optional_at s (has_bit b 4) 68 ∷
      optional_at s (has_bit b 8) 76 ∷ optional_at s (has_bit b 16) 84 ∷ optional_at s (has_bit b 32) 92 ∷ []) ≡
      b =
      rw (bit_value s b 1 52, bit_value s b 2 60, bit_value s b 4 68, bit_value s b 8 76, bit_value s b 16 84, bit_value s b 32 92)
      (six-bits b (leb-true b 63 few.1)) in
      subst (Stands s) h.1
      (record {
        long = omega arith;
        kind = sym (eqb-true (get_or s 0 0) 5 k);
        fields =
            id-onto s all 33 _ (omega arith)
            (byte-onto s _ _ 49 (side-byte _ bytes.0) (omega arith)
            (byte-onto s _ _ 50 (change_reason-byte _ bytes.1) (omega arith)
            (byte-onto s _ _ 51 bits (omega arith)
            (optional-onto s all 52 _ _ price.1 (omega arith)
            (optional-onto s all 60 _ _ old_size.1 (omega arith)
            (optional-onto s all 68 _ _ new_size.1 (omega arith)
            (optional-onto s all 76 _ _ old_price.1 (omega arith)
            (optional-onto s all 84 _ _ new_price.1 (omega arith) (optional-last s all 92 _ new_funds.1 n)))))))));
        fits = (
          id-fits s all 33 (omega arith),
          optional-fits s all 52 _ (omega arith),
          optional-fits s all 60 _ (omega arith),
          optional-fits s all 68 _ (omega arith),
          optional-fits s all 76 _ (omega arith),
          optional-fits s all 84 _ (omega arith),
          optional-fits s all 92 _ (omega arith),
        );
      })

  unsupported-stands : eqb (get_or s 0 0) 6 ≡ true → read_unsupported s ≡ Some e → Stands s e
  unfolding read_unsupported
  unsupported-stands k q =
      let h = shaped _ _ e q in
      let n = eqb-true (length s) 37 h.0 in
      subst (Stands s) h.1
      (record {
        long = omega arith;
        kind = sym (eqb-true (get_or s 0 0) 6 k);
        fields = last s (little_bytes 4 (little (part s 33 4))) 33 37 n (word-drop s all 33 4 (omega arith));
        fits = little-part-bound s all 33 4 (omega arith);
      })

  event-stands : read_event s ≡ Some e → Stands s e
  event-stands = by_kind s e received-stands open-stands done-stands match-stands change-stands unsupported-stands

  -- the message that the bytes hold
  abbrev pub message_at : L3Message
  message_at = record { product_id = product_id_at s 1; sequence = word_at s 17; time_us = word_at s 25; event = e }

  pub message-bytes : read_event s ≡ Some e → message_bytes message_at ≡ s
  unfolding word_at
  message-bytes q =
      let h = event-stands q in
      let long = h.long in
      byte-onto s _ _ 0 h.kind (omega arith)
      (product-onto s all _ (omega arith)
      (word-onto s all 17 8 _ (omega arith) (word-onto s all 25 8 _ (omega arith) h.fields)))

  pub message-fits : read_event s ≡ Some e → MessageFits message_at
  unfolding product_id_at word_at
  message-fits q =
      let h = event-stands q in
      let long = h.long in
      record {
        product = (big-part-bound s all 1 8 (omega arith), big-part-bound s all 9 8 (omega arith));
        sequence = little-part-bound s all 17 8 (omega arith);
        time = little-part-bound s all 25 8 (omega arith);
        event = h.fits;
      }

-- ---- snapshots

length_from : (s : List ℕ) (i k : ℕ) → length (orders_from s i k) ≡ k
unfolding orders_from
length_from s i zero = refl
length_from s i (suc k) = ap suc (length_from s (i + 1) k)

orders-join : (s : List ℕ) (i a b : ℕ) → orders_from s i a ++ orders_from s (i + a) b ≡ orders_from s i (a + b)
unfolding orders_from
orders-join s i zero b = rw (add-zero i, zero-add b)
orders-join s i (suc a) b =
    let e : i + suc a ≡ i + 1 + a = omega arith in
    rw (suc-add a b) (ap (λ l. order_at s i ∷ l) (rw e (orders-join s (i + 1) a b)))

reached : (s : List ℕ) (i : ℕ) → 41 + 32 * (i + 1) ≤ length s → order_at s i ≡ order_from s (41 + 32 * i)
unfolding order_at
reached s i h = rw (le-leb (41 + 32 * (i + 1)) (length s) h)

module _ (s : List ℕ) (all : AllBytes s) where
  order-onto : (at : ℕ) (o : SnapshotOrder) (b : List ℕ) → o ≡ order_from s at → at + 32 ≤ length s → b ≡ drop (at + 32) s →
      order_id_bytes o.order_id ++ (amount_bytes o.price ++ (amount_bytes o.size ++ b)) ≡ drop at s
  unfolding order_from
  order-onto at o b e h t =
      let p : at + 16 + 8 ≡ at + 24 = omega arith in
      let q : at + 24 + 8 ≡ at + 32 = omega arith in
      rw e
      (id-onto s all at _ (omega arith)
      (amount-onto s all (at + 16) _ (omega arith) (rw p (amount-onto s all (at + 24) b (omega arith) (rw q t)))))

  orders-last : (i k : ℕ) → length s ≡ 41 + 32 * (i + k) → orders_bytes (orders_from s i k) ≡ drop (41 + 32 * i) s
  unfolding orders_from
  orders-last i zero n = sym (drop_of_length-le s {i = 41 + 32 * i} (omega arith))
  orders-last i (suc k) n =
      let next : 41 + 32 * i + 32 ≡ 41 + 32 * (i + 1) = omega arith in
      order-onto (41 + 32 * i) (order_at s i) _ (reached s i (omega arith)) (omega arith)
      (rw next (orders-last (i + 1) k (omega arith)))

  orders_fit : (i k : ℕ) → 41 + 32 * (i + k) ≤ length s → OrdersFit (orders_from s i k)
  unfolding orders_from order_from
  orders_fit i zero h = tt
  orders_fit i (suc k) h =
      rw (reached s i (omega arith)) (
        id-fits s all (41 + 32 * i) (omega arith),
        amount-fits s all (41 + 32 * i + 16) (omega arith),
        amount-fits s all (41 + 32 * i + 24) (omega arith),
        orders_fit (i + 1) k (omega arith),
      )

  -- the snapshot that the bytes hold
  abbrev pub snapshot_at : Snapshot
  snapshot_at =
      record {
        product_id = product_id_at s 1;
        sequence = word_at s 17;
        bids = orders_from s 0 (bids_at s);
        asks = orders_from s (bids_at s) (asks_at s);
      }

  pub both-sides : snapshot_at.bids ++ snapshot_at.asks ≡ orders_from s 0 (bids_at s + asks_at s)
  both-sides = ap (λ n. orders_from s 0 (bids_at s) ++ orders_from s n (asks_at s)) (sym (zero-add (bids_at s))) ∙ orders-join s 0 (bids_at s) (asks_at s)

  record Tests : Type 0 where
    size : length s ≡ 41 + 32 * (bids_at s + asks_at s)
    kind : get_or s 0 0 ≡ 0
    time : word_at s 25 ≡ 0

  tests : snapshot_shaped s ≡ true → Tests
  unfolding snapshot_shaped
  tests h =
      let t = and_yes _ _ h in
      let u = and_yes _ _ t.0 in
      record { size = eqb-true _ _ u.0; kind = eqb-true _ _ u.1; time = eqb-true _ _ t.1 }

  pub snapshot-bytes : snapshot_shaped s ≡ true → snapshot_bytes snapshot_at ≡ s
  unfolding word_at bids_at asks_at
  snapshot-bytes h =
      let t = tests h in
      let n = t.size in
      rw (both-sides, length_from s 0 (bids_at s), length_from s (bids_at s) (asks_at s))
      (byte-onto s _ _ 0 (sym t.kind) (omega arith)
      (product-onto s all _ (omega arith)
      (word-onto s all 17 8 _ (omega arith)
      (zero-onto s all 25 _ t.time (omega arith)
      (word-onto s all 33 4 _ (omega arith)
      (word-onto s all 37 4 _ (omega arith) (orders-last 0 (bids_at s + asks_at s) (omega arith))))))))

  pub snapshot-fits : snapshot_shaped s ≡ true → SnapshotFits snapshot_at
  unfolding product_id_at word_at bids_at asks_at
  snapshot-fits h =
      let n = (tests h).size in
      record {
        product = (big-part-bound s all 1 8 (omega arith), big-part-bound s all 9 8 (omega arith));
        sequence = little-part-bound s all 17 8 (omega arith);
        bids = rw (length_from s 0 (bids_at s)) (little-part-bound s all 33 4 (omega arith));
        asks = rw (length_from s (bids_at s) (asks_at s)) (little-part-bound s all 37 4 (omega arith));
        orders = rw both-sides (orders_fit 0 (bids_at s + asks_at s) (omega arith));
      }
