-- The records at some places, one behind the other.
use Rattle.std.specs.Prelude.{ℕ, suc, ◌+◌, ◌≤◌, ◌<◌, ◌≡◌, refl, List, [], ◌∷◌, ◌++◌, map, length, take, drop, get_or}
use Rattle.std.proofs.Common.{sym, ap, ap₂, ◌∙◌, append_assoc, append-nil, arith, add-one, length-append, take-append-drop, take-suc}
use Rattle.format.specs.Bytes.{Bytes}
use Rattle.volume_laws.specs.Lists.{map_append}
use Rattle.image_laws.specs.Stores.{joined_bytes}
use Rattle.record_places.specs.Place.{bytes_at}

-- the records at some places, one behind the other
unfoldable pub moved : Bytes → List ℕ → Bytes
moved image ps = joined_bytes (map (bytes_at image) ps)

-- ---- records one behind the other

pub moved_none : (x : Bytes) → moved x [] ≡ []
unfolding moved joined_bytes
moved_none x = refl

joined_append : (a b : List Bytes) → joined_bytes (a ++ b) ≡ joined_bytes a ++ joined_bytes b
unfolding joined_bytes
joined_append [] b = refl
joined_append (c ∷ a) b = ap (λ l. c ++ l) (joined_append a b) ∙ sym (append_assoc c (joined_bytes a) (joined_bytes b))

pub moved_append : (x : Bytes) (l m : List ℕ) → moved x (l ++ m) ≡ moved x l ++ moved x m
unfolding moved
moved_append x l m = ap joined_bytes (map_append (bytes_at x) l m) ∙ joined_append (map (bytes_at x) l) (map (bytes_at x) m)

-- the first i and one more
pub moved_more : (x : Bytes) (ps : List ℕ) (i : ℕ) → i < length ps → moved x (take (i + 1) ps) ≡ moved x (take i ps) ++ bytes_at x (get_or ps i 0)
unfolding moved joined_bytes
moved_more x ps i h =
    rw (add-one, take-suc ps i 0 h) (moved_append x (take i ps) (get_or ps i 0 ∷ []) ∙ rw (append-nil (bytes_at x (get_or ps i 0))))

-- the first i are no longer than all
pub moved_within : (x : Bytes) (ps : List ℕ) (i : ℕ) → length (moved x (take i ps)) ≤ length (moved x ps)
moved_within x ps i =
    let e = ap (moved x) (take-append-drop i ps) in
    let f = ap length (moved_append x (take i ps) (drop i ps)) in
    omega (arith, ap length e, length-append (moved x (take i ps)) (moved x (drop i ps)))

-- images that agree on every record
pub moved_same : (x y : Bytes) (ps : List ℕ) → ((i : ℕ) → i < length ps → bytes_at y (get_or ps i 0) ≡ bytes_at x (get_or ps i 0)) → moved y ps ≡ moved x ps
unfolding moved
moved_same x y ps h = ap joined_bytes (go ps h)
  where
    go : (l : List ℕ) → ((i : ℕ) → i < length l → bytes_at y (get_or l i 0) ≡ bytes_at x (get_or l i 0)) → map (bytes_at y) l ≡ map (bytes_at x) l
    go [] h = refl
    go (p ∷ l) h = ap₂ (λ (b : Bytes) (m : List Bytes). b ∷ m) (h 0 (omega arith)) (go l (λ i k. h (suc i) (omega arith)))
