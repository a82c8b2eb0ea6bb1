-- What the list of a file's blocks holds.
use Rattle.std.specs.Prelude.{Option as Answer, None, Some, ℕ, ◌*◌, ◌≤◌, ◌≡◌, List, ◌++◌, length, take}
use Rattle.std.proofs.Math.Option.{Option, none, some}
use Rattle.std.proofs.Common.{take_at}
use Rattle.format.specs.Bytes.{Bytes}
use Rattle.volume.specs.Contents.{text_of}
use Rattle.calls.specs.Mount.{most_blocks}
use Rattle.record_places.specs.Place.{by_place}
use Rattle.file_list.specs.Listing.{Listed}
use Rattle.file_list.specs.declared.Total.{Total}

-- n rows hold blocks of the image, with so many bytes
pub record Rows (image : Bytes) (n size : ℕ) (bs ns : List ℕ) : Type 0 where
  pub few : n ≤ most_blocks
  pub listed : Listed image (take n bs) (take n ns)
  pub sized : size ≡ length (text_of (by_place image) (take n bs))
  pub small : size ≤ n * 65535

-- what an answer of `list_file` says of the rows
abbrev pub Filled : Bytes → Answer Total → List ℕ → List ℕ → Type 0
Filled image (Some t) bs ns = Rows image t.blocks t.bytes bs ns
Filled image None bs ns = Unit {0}

-- and of the file's blocks
abbrev pub file_of : Answer Total → List ℕ → Option (List ℕ)
file_of (Some t) bs = some (take t.blocks bs)
file_of None bs = none

-- rows that stand before others
pub rows_before : (image : Bytes) (n size : ℕ) (bs ns bs' ns' : List ℕ) → length bs ≡ n → length ns ≡ n → n ≤ most_blocks
    → size ≡ length (text_of (by_place image) bs) → size ≤ n * 65535 → Listed image bs ns → Rows image n size (bs ++ bs') (ns ++ ns')
rows_before image n size bs ns bs' ns' b m few sized small listed =
    let x : take n (bs ++ bs') ≡ bs = take_at bs bs' n b in
    let y : take n (ns ++ ns') ≡ ns = take_at ns ns' n m in
    record { few = few; listed = rw (x, y) listed; sized = rw x sized; small = small }
