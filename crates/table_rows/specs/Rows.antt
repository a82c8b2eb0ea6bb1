-- A table whose ids and spots stand one after the other in one part, and the taken rows by themselves.
use Rattle.std.specs.Prelude.{ℕ, ◌+◌, ◌≤◌, ◌<◌, ◌≡◌, refl, Bool, true, false, cond, List, length, take, drop, get_or, ltb}
use Rattle.std.proofs.Common.{sym, ◌∙◌, arith, length-take-le, take-take, get_or-take}
use Rattle.std.proofs.Math.Bool.{not}
use Rattle.std.proofs.Math.Option.{some, none}
use borrow.Author.Tests.{ltb-true, not-true}
use Rattle.format.specs.Bytes.{Bytes}
use Rattle.volume.specs.View.{View}
use Rattle.volume.specs.Lists.{keep}
use Rattle.volume.specs.Counting.{volume_of}
use Rattle.volume_laws.specs.Tests.{T→true}
use Rattle.volume_laws.specs.Lists.{keep_mem}
use Rattle.volume_laws.specs.Counting.{counting_mem}
use Rattle.record_places.specs.Place.{by_place, block_at, Lies, AllLie}
use Rattle.table_words.specs.Occupancy.{capacity}
use Rattle.table_index.specs.Index.{slots}
use Rattle.table_index.specs.Rows.{RowIndex}
use Rattle.table_rows.specs.Table.{taken, row_of, found, Rows, Good, Updates}
use Rattle.table_rows.specs.Laws.{held_some, row_counts}
use Rattle.table_rows.specs.declared.Updated.{Updated}

-- Safety of a table of `most` rows in one part, the ids and then the spots.
pub record GoodPart (image : Bytes) (most : ℕ) (words part : List ℕ) : Type 0 where
  pub room : capacity words ≡ most
  pub good : Good image words (take most part) (drop most part)

-- the index of the taken rows of a table of `most` rows in one part; a row's number fits into 16 bits
pub record IndexedPart (most : ℕ) (words index part : List ℕ) : Type 0 where
  pub long : length index ≡ slots + most
  pub small : most < 65536
  pub rows : RowIndex index part (taken words)

-- the record p was shown to such a table
abbrev pub UpdatesPart : Bytes → ℕ → ℕ → List ℕ → List ℕ → Updated → List ℕ → List ℕ → Type 0
UpdatesPart image p most words part r words' part' = Updates image p words (take most part) (drop most part) r words' (take most part') (drop most part')

-- Safety of the taken rows, each an id and a spot: as many spots as ids, and a whole record at each spot.
pub record Usable (image : Bytes) (ids spots : List ℕ) : Type 0 where
  pub pairs : length spots ≡ length ids
  pub lie : AllLie image spots (length ids)

-- Safety of the table of one kind: each of its records is of that kind, so that its fields stand where the kind's header has them.
pub record TableOf (block : Bool) (image : Bytes) (ids spots : List ℕ) : Type 0 where
  pub usable : Usable image ids spots
  pub kind : (k : ℕ) → k < length ids → block_at image (get_or spots k 0) ≡ block

abbrev pub InodeTable : Bytes → List ℕ → List ℕ → Type 0
InodeTable image ids spots = TableOf false image ids spots

abbrev pub BlockTable : Bytes → List ℕ → List ℕ → Type 0
BlockTable image ids spots = TableOf true image ids spots

-- Meaning: the taken rows are those of the records ps
abbrev pub RowsOf : View ℕ → List ℕ → List ℕ → List ℕ → Type 0
RowsOf F ps ids spots = Rows F ps (length ids) ids spots

-- what is found lies in the image
pub found_in : {image : Bytes} {ids spots : List ℕ} → Usable image ids spots → (i q : ℕ) → found (length ids) ids spots i ≡ some q → Lies image q
found_in {ids = ids} {spots = spots} u i q e =
    let h = held_some (length ids) spots (row_of (length ids) ids i) q e in
    rw h.1 at (u.lie (row_of (length ids) ids i) h.0)

-- the first n rows of a table, by themselves
module _ (F : View ℕ) (ps : List ℕ) (n : ℕ) (ids spots : List ℕ) (li : n ≤ length ids) where
  exact_long : length (take n ids) ≡ n
  exact_long = length-take-le n ids li

  pub rows_exact : Rows F ps n ids spots → RowsOf F ps (take n ids) (take n spots)
  rows_exact rows = rw exact_long (record {
    ids_are = take-take n n ids (omega arith) ∙ rows.ids_are;
    counts = λ i. rows.counts i ∙ rw (take-take n n ids (omega arith)) (go (row_of n ids i) (ltb (row_of n ids i) n) refl);
  })
    where
      go : (k : ℕ) (b : Bool) → ltb k n ≡ b → cond b (some (get_or spots k 0)) none ≡ cond b (some (get_or (take n spots) k 0)) none
      go k true e = rw (get_or-take n spots k 0 (ltb-true k n e))
      go k false e = refl

  pub usable_exact : (image : Bytes) → n ≤ length spots → AllLie image spots n → Usable image (take n ids) (take n spots)
  usable_exact image ls lie = record {
    pairs = length-take-le n spots ls ∙ sym exact_long;
    lie = rw exact_long (λ k h. rw (get_or-take n spots k 0 h) (lie k h));
  }

-- the table of the records of one kind is a table of that kind
module _ {image : Bytes} {ids spots : List ℕ} (u : Usable image ids spots) (rs : List ℕ) where
  pub inode_table : RowsOf (by_place image) (volume_of (by_place image) rs).inodes ids spots → InodeTable image ids spots
  unfolding volume_of
  inode_table rows = record {
    usable = u;
    kind = λ k h.
        let m = counting_mem (by_place image) (keep (λ r. not (block_at image r)) rs) (get_or ids k 0) (get_or spots k 0)
        (row_counts (by_place image) (keep (λ r. not (block_at image r)) rs) (length ids) ids spots rows (omega arith) k h) in
        not-true (block_at image (get_or spots k 0)) (T→true (keep_mem (λ r. not (block_at image r)) rs m.0).1);
  }

  pub block_table : RowsOf (by_place image) (volume_of (by_place image) rs).blocks ids spots → BlockTable image ids spots
  unfolding volume_of
  block_table rows = record {
    usable = u;
    kind = λ k h.
        let m = counting_mem (by_place image) (keep (λ r. block_at image r) rs) (get_or ids k 0) (get_or spots k 0)
        (row_counts (by_place image) (keep (λ r. block_at image r) rs) (length ids) ids spots rows (omega arith) k h) in
        T→true (keep_mem (λ r. block_at image r) rs m.0).1;
  }
