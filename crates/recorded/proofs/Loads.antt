-- Words loaded one by one.
use Prim.Native.Nat.{ℕ, suc, ◌+◌, ◌-◌, ◌<◌, ◌≤◌}
use mathlib.Core.Path.{◌≡◌}
use mathlib.Core.List.{List}
use lib.ListN.{length, set, take, drop, length-set, length-drop}
use lib.Seq.{take_all}
use native.Mathlib.Omega.{arith}
use borrow.Author.Tests.{le-ltb}
use Rattle.recorded.specs.Format.{word_at, loaded_by, loaded}

-- the rest of the bytes is a part that is lent from 8 to the end
pub load-next : (ws : List ℕ) (i : ℕ) (bytes : List ℕ) (w : ℕ) → i < length ws → 8 ≤ length bytes → w ≡ word_at bytes 0 → loaded ws i bytes ≡ loaded (set ws i w) (i + 1) (take (length bytes - 8) (drop 8 bytes))
unfolding loaded_by
load-next ws i bytes w h l e =
    let left : length ws - i ≡ suc (length (set ws i w) - (i + 1)) = rw (length-set ws i w) (omega arith) in
    let rest : take (length bytes - 8) (drop 8 bytes) ≡ drop 8 bytes = take_all (length bytes - 8) (drop 8 bytes) (rw (length-drop 8 bytes) (omega arith)) in
    rw (rest, left, le-ltb (length bytes) 8 l, e)
