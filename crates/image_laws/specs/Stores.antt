-- Several stores, one after the other; and erased bytes.
use Rattle.std.specs.Prelude.{ℕ, zero, suc, ◌+◌, ◌-◌, ◌≤◌, ◌≡◌, refl, List, [], ◌∷◌, ◌++◌, length, drop}
use Rattle.std.proofs.Common.{ap, ◌∙◌, append-nil, arith, zero-add, add-zero, drop_of_length-le, take-append-drop, drop-drop}
use Rattle.std.proofs.Math.Nat.{sub-zero, zero-sub, suc-sub-suc}
use Rattle.std.proofs.lemmas.List.{length-replicate}
use Rattle.format.specs.Bytes.{Bytes}
use Rattle.format.specs.Reading.{ERASED}
use Rattle.calls.specs.Image.{put, part, erased}
use Rattle.calls.specs.Storing.{Store, store_all}
use Rattle.image_laws.specs.Laws.{part_length, put_within}

-- some bytes one behind the other
unfoldable pub joined_bytes : List Bytes → Bytes
joined_bytes [] = []
joined_bytes (b ∷ bs) = b ++ joined_bytes bs

-- ---- the whole of an image, or of a part, stored

-- a part stored where it stands
pub put_itself : (x : Bytes) (p n : ℕ) → p + n ≤ length x → put x p (part x p n) ≡ x
unfolding put
put_itself x p n h = rw (part_length x p n h, ← drop-drop n p x, take-append-drop n (drop p x), take-append-drop p x)

-- bytes stored over as many
pub put_whole : (x b : Bytes) → length x ≡ length b → put x 0 b ≡ b
unfolding put
put_whole x b e =
    let h : length x ≤ length b = omega arith in
    rw (zero-add (length b), drop_of_length-le x h) (append-nil b)

-- ---- erased bytes

pub drop_erased : (k n : ℕ) → drop k (erased n) ≡ erased (n - k)
drop_erased zero n = rw (sub-zero n)
drop_erased (suc k) zero = rw (zero-sub (suc k))
drop_erased (suc k) (suc n) = rw (suc-sub-suc n k) (drop_erased k n)

over_erased : (b : Bytes) (n : ℕ) → put (erased n) 0 b ≡ b ++ erased (n - length b)
unfolding put
over_erased b n = rw (zero-add (length b), drop_erased (length b) n)

-- bytes stored at the start of erased ones
pub put_erased : (x : Bytes) (p n : ℕ) (b : Bytes) → p + n ≤ length x → length b ≤ n
    → put (put x p (erased n)) p b ≡ put x p (b ++ erased (n - length b))
put_erased x p n b h g =
    let e = length-replicate n ERASED in
    rw add-zero at (put_within x p (erased n) 0 b (omega arith) (omega arith)) ∙ ap (put x p) (over_erased b n)

-- ---- a list of stores

pub stores_append : (x : Bytes) (a b : List Store) → store_all x (a ++ b) ≡ store_all (store_all x a) b
unfolding store_all
stores_append x [] b = refl
stores_append x (s ∷ a) b = stores_append (put x s.place s.bytes) a b
