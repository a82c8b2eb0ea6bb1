-- The ids and the places of new blocks, before any is stored. Document 01, "Create, append, unlink": "all pieces or none".
use Rattle.std.specs.Prelude.{ℕ, zero, suc, ◌+◌, ◌≡◌, refl, List, [], ◌∷◌, map, length}
use Rattle.std.proofs.Common.{ap}
use Rattle.std.proofs.Math.Option.{Option, none, some}
use Rattle.format.specs.Bytes.{Bytes}
use Rattle.format.specs.Ids.{first_block_id}
use Rattle.format.specs.Record.{block}
use Rattle.format.specs.Encoding.{block_bytes}
use Rattle.format_laws.specs.Encoding.{block_size}
use Rattle.volume.specs.Lists.{bind}
use Rattle.calls.specs.Storing.{Space, Fit, first_fit, Store, prepend, place_all, unused_id}
use Rattle.calls.specs.Append.{block_records}
use Rattle.write_room.specs.Plan.{place_then, places_for}

-- "each takes the smallest block id that is not yet named": n of them
unfoldable pub ids_for : List ℕ → ℕ → List ℕ
ids_for names zero = []
ids_for names (suc n) = let i = unused_id first_block_id names in i ∷ ids_for (i ∷ names) n

-- what is stored for the pieces of the file f, "each naming the one before"
unfoldable pub stores_of : List ℕ → ℕ → ℕ → List Bytes → List ℕ → List Store
stores_of [] f previous ps qs = []
stores_of (i ∷ is) f previous [] qs = []
stores_of (i ∷ is) f previous (p ∷ ps) [] = []
stores_of (i ∷ is) f previous (p ∷ ps) (q ∷ qs) = record { place = q; bytes = block_bytes i 0 f previous p } ∷ stores_of is f i ps qs

-- the stores at the places, where there are places
abbrev pub stores_at : List ℕ → ℕ → ℕ → List Bytes → Option (List ℕ) → Option (List Store)
stores_at is f previous ps none = none
stores_at is f previous ps (some qs) = some (stores_of is f previous ps qs)

-- the records of the pieces, placed, are these stores
pub blocks_placed : (ss : List Space) (names : List ℕ) (f previous : ℕ) (ps : List Bytes)
    → place_all ss (block_records names f previous ps) ≡ stores_at (ids_for names (length ps)) f previous ps (places_for ss (map length ps))
unfolding place_all block_records places_for stores_of ids_for
blocks_placed ss names f previous [] = refl
blocks_placed ss names f previous (p ∷ ps) =
    rw (block_size (unused_id first_block_id names) 0 f previous p)
    (go (first_fit (block.header_size + length p) ss) (λ t. blocks_placed t (unused_id first_block_id names ∷ names) f (unused_id first_block_id names) ps))
  where
    i : ℕ
    i = unused_id first_block_id names

    b : Bytes
    b = block_bytes i 0 f previous p

    then : (q : ℕ) (o : Option (List ℕ))
        → prepend (record { place = q; bytes = b }) (stores_at (ids_for (i ∷ names) (length ps)) f i ps o)
        ≡ stores_at (i ∷ ids_for (i ∷ names) (length ps)) f previous (p ∷ ps) (place_then q o)
    then q none = refl
    then q (some qs) = refl

    go : (o : Option Fit)
        → ((t : List Space) → place_all t (block_records (i ∷ names) f i ps) ≡ stores_at (ids_for (i ∷ names) (length ps)) f i ps (places_for t (map length ps)))
        → bind o (λ g. prepend (record { place = g.place; bytes = b }) (place_all g.left (block_records (i ∷ names) f i ps)))
        ≡ stores_at (i ∷ ids_for (i ∷ names) (length ps)) f previous (p ∷ ps) (bind o (λ g. place_then g.place (places_for g.left (map length ps))))
    go none ih = refl
    go (some g) ih = rw (ih g.left) (then g.place (places_for g.left (map length ps)))

pub records_count : (names : List ℕ) (f previous : ℕ) (ps : List Bytes) → length (block_records names f previous ps) ≡ length ps
unfolding block_records
records_count names f previous [] = refl
records_count names f previous (p ∷ ps) = ap suc (records_count (unused_id first_block_id names ∷ names) f (unused_id first_block_id names) ps)

pub ids_count : (names : List ℕ) (n : ℕ) → length (ids_for names n) ≡ n
unfolding ids_for
ids_count names zero = refl
ids_count names (suc n) = ap suc (ids_count (unused_id first_block_id names ∷ names) n)
