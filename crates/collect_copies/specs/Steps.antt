-- One record tested: what each branch of the code answers.
use Rattle.std.specs.Prelude.{ℕ, ◌+◌, ◌-◌, ◌≤◌, ◌<◌, ◌≡◌, refl, Bool, not, List, length}
use Rattle.std.proofs.Math.Path.{sym}
use Rattle.std.proofs.Math.Bool.{true, false}
use Rattle.std.proofs.Math.Option.{Option, none, some}
use Rattle.std.proofs.Common.{arith}
use Rattle.std.proofs.Math.Dec.{ltb}
use borrow.Author.Tests.{le-leb, lt-leb, lt-ltb, le-ltb, ltb-true, ltb-false}
use Rattle.format.specs.Bytes.{Bytes, le32}
use Rattle.record_places.specs.Place.{block_at, by_place}
use Rattle.table_rows.specs.Table.{found}
use Rattle.collect_copies.specs.Copied.{Table, Tables, table_of, inside, dropped, counts_in, copied}

module _ (o n p : ℕ) where
  pub inside_before : p < o → false ≡ inside o n p
  unfolding inside
  inside_before h = rw (lt-leb o p h)

  pub inside_from : o ≤ p → ltb (p - o) n ≡ inside o n p
  unfolding inside
  inside_from h = rw (le-leb o p h) (go (ltb (p - o) n) refl)
    where
      go : (b : Bool) → ltb (p - o) n ≡ b → b ≡ ltb p (o + n)
      go true e = let l = ltb-true (p - o) n e in sym (lt-ltb p (o + n) (omega arith))
      go false e = let l = ltb-false (p - o) n e in sym (le-ltb p (o + n) (omega arith))

module _ (image : Bytes) (u : Table) (p : ℕ) where
  abbrev there : Option ℕ
  there = found (length u.ids) u.ids u.spots (le32 image (p + 4))

  pub counts_none : there ≡ none → false ≡ counts_in image u p
  unfolding counts_in
  counts_none e = rw e

  pub counts_one : (q : ℕ) → there ≡ some q → (by_place image).same p q ≡ counts_in image u p
  unfolding counts_in
  counts_one q e = rw e

module _ (image : Bytes) (o n : ℕ) (ps : List ℕ) (t : Tables) (p : ℕ) where
  pub copied_elsewhere : inside o n p ≡ false → false ≡ copied image o n ps t p
  unfolding copied
  copied_elsewhere e = rw e

  module _ (here : inside o n p ≡ true) where
    pub copied_older : counts_in image (table_of (block_at image p) t) p ≡ false → false ≡ copied image o n ps t p
    unfolding copied
    copied_older e = rw (here, e)

    pub copied_counts : counts_in image (table_of (block_at image p) t) p ≡ true → not (dropped image o n ps t.inodes p) ≡ copied image o n ps t p
    unfolding copied
    copied_counts e = rw (here, e)

module _ (image : Bytes) (t : Tables) (p : ℕ) where
  pub kind_block : block_at image p ≡ true → counts_in image t.blocks p ≡ counts_in image (table_of (block_at image p) t) p
  kind_block e = rw e

  pub kind_inode : block_at image p ≡ false → counts_in image t.inodes p ≡ counts_in image (table_of (block_at image p) t) p
  kind_inode e = rw e
