-- A day file. 02, paper 1: "A day file has a 4-byte count (integers little-endian), then that many pairs of offset and length, 4 bytes each, then the pieces."
use Rattle.std.specs.Prelude.{ℕ, zero, suc, ◌+◌, ◌*◌, Bool, true, ◌&&◌, cond, List, [], ◌∷◌, leb, ltb, length}
use Rattle.message.specs.declared.ProductId.{ProductId}
use Rattle.piece.specs.Bytes.{part, little}
use Rattle.piece.specs.Piece.{product_id_at}

-- "at most 65,536 bytes"
abbrev pub day_bytes : ℕ
day_bytes = 65536

-- a 4-byte integer at a place
unfoldable pub four_at : List ℕ → ℕ → ℕ
four_at f at = little (part f at 4)

abbrev pub piece_count : List ℕ → ℕ
piece_count f = four_at f 0

-- where pair i stands, counted from 0; past the last one the pairs end
abbrev pub pair_at : ℕ → ℕ
pair_at i = 4 + 8 * i

-- "Offsets count from the file's first byte"
abbrev pub offset_of : List ℕ → ℕ → ℕ
offset_of f i = four_at f (pair_at i)

abbrev pub length_of : List ℕ → ℕ → ℕ
length_of f i = four_at f (pair_at i + 4)

abbrev pub end_of : List ℕ → ℕ → ℕ
end_of f i = offset_of f i + length_of f i

-- ---- the rules, which a file of number 60 breaks

-- offsets "rise strictly", "each ends by the next one's offset"
unfoldable pub before_next : List ℕ → ℕ → Bool
before_next f i = ltb (offset_of f i) (offset_of f (i + 1)) && leb (end_of f i) (offset_of f (i + 1))

-- so piece i and the k behind it, "the last by the file's end"
unfoldable pub in_order : List ℕ → ℕ → ℕ → Bool
in_order f i zero = leb (end_of f i) (length f)
in_order f i (suc k) = before_next f i && in_order f (i + 1) k

-- of so many pieces: "the first piece starts past the pairs"
unfoldable pub in_place : List ℕ → ℕ → Bool
in_place f zero = true
in_place f (suc k) = leb (pair_at (suc k)) (offset_of f 0) && in_order f 0 k

-- a file that is not too long, has all of its pairs, and has its pieces in place
unfoldable pub day_shaped : List ℕ → Bool
day_shaped f = (leb (length f) day_bytes && leb (pair_at (piece_count f)) (length f)) && in_place f (piece_count f)

-- ---- the pieces

unfoldable pub piece_at : List ℕ → ℕ → List ℕ
piece_at f i = part f (offset_of f i) (length_of f i)

-- k pieces from piece i on
unfoldable pub pieces_from : List ℕ → ℕ → ℕ → List (List ℕ)
pieces_from f i zero = []
pieces_from f i (suc k) = piece_at f i ∷ pieces_from f (i + 1) k

unfoldable pub pieces_of : List ℕ → List (List ℕ)
pieces_of f = pieces_from f 0 (piece_count f)

-- "the first piece's product (zeros if none or under 17 bytes)"; a piece's product follows its kind byte
abbrev pub no_product : ProductId
no_product = record { high = 0; low = 0 }

unfoldable pub product_of : List (List ℕ) → ProductId
product_of [] = no_product
product_of (p ∷ ps) = cond (ltb (length p) 17) no_product (product_id_at p 1)
