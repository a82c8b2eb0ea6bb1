-- Rows one by one, as an iterator over the spots gives them.
use Rattle.std.specs.Prelude.{ℕ, ◌<◌, ◌≡◌, List, length, get_or}
use Rattle.std.proofs.lemmas.List.{get_or_read}
use Rattle.format.specs.Bytes.{Bytes}
use Rattle.record_places.specs.Place.{Lies, AllLie}

pub each_lies : (image : Bytes) (spots : List ℕ) → AllLie image spots (length spots) → (p k : ℕ) → k < length spots → p ≡ get_or spots k p → Lies image p
each_lies image spots lie p k h e = rw (get_or_read spots k p h e 0) (lie k h)
