-- What the tree of a mounted volume is.
use Rattle.std.specs.Prelude.{ℕ, ◌≤◌, ◌≡◌, ◌≢◌, true, false, List, eqb, Err}
use Rattle.std.proofs.Common.{sym, ap, ◌∙◌, arith}
use Rattle.std.proofs.Math.Option.{none, some}
use Rattle.std.proofs.Math.Nat.{zero-add}
use Rattle.std.proofs.Math.ListN.{length}
use borrow.Author.Tests.{eq-eqb, ne_eqb}
use Rattle.format.specs.Bytes.{Bytes}
use Rattle.format.specs.Ids.{root_id}
use Rattle.volume.specs.Lists.{sort}
use Rattle.volume.specs.View.{by_bytes}
use Rattle.volume.specs.Counting.{Volume, inode_of, inode_ids}
use Rattle.volume.specs.Listing.{most_depth, show_directory, tree_text}
use Rattle.volume_laws.specs.Listing.{ids_shown, shown_few}
use Rattle.volume_laws.specs.Map.{over, show_directory_map, tree_text_map}
use Rattle.calls.specs.Mount.{volume, mount_number, no_root}
use Rattle.calls.specs.Tree.{attempt_tree, tree_answer, buffer_with}
use Rattle.calls.specs.Outcome.{code, code_nonzero}
use Rattle.calls.specs.Answers.{tree_seen}
use Rattle.calls.specs.declared.Descriptor.{Descriptor}
use Rattle.calls.specs.declared.Refusal.{Refusal}
use Rattle.calls.specs.declared.TreeAnswer.{TreeAnswer}
use Rattle.calls_laws.specs.Checks.{passes}
use Rattle.calls_laws.specs.Records.{volume_sound}
use Rattle.record_places.specs.Place.{by_place, bytes_at}
use Rattle.record_places.specs.Laws.{place_views}
use Rattle.area_pass.specs.Bridge.{placed_volume, volume_places}
use Rattle.mount_state.specs.Bridge.{inode_is}
use Rattle.table_rows.specs.Rows.{InodeTable, RowsOf}
use Rattle.table_rows.specs.Table.{row_of, found}
use Rattle.table_rows.specs.Laws.{held_some}
use Rattle.file_blocks.specs.Blocks.{BlocksOf}
use Rattle.inode_order.specs.Order.{place_before, InodeAt}
use Rattle.text_write.specs.Clip.{Wrote, clip_front}
use Rattle.tree_show.specs.Show.{Lists}
use Rattle.call_tree.specs.Ordered.{ordered, ordered_counts}

-- the answer and the buffer of the call
pub record Answers (image : Bytes) (ds : List Descriptor) (x x' : Bytes) (r : TreeAnswer) : Type 0 where
  pub answer : r ≡ tree_answer (attempt_tree image ds)
  pub buffer : x' ≡ buffer_with x (attempt_tree image ds)

module _ (image : Bytes) (ds : List Descriptor) where
  -- the volume of the calls, by the places of its records
  text_is : tree_text (by_place image) (placed_volume image ds) ≡ tree_text by_bytes (volume image ds)
  text_is = sym (rw (volume_places image ds) (tree_text_map (by_place image) by_bytes (bytes_at image) (place_views image) (placed_volume image ds)))

  lines_are : show_directory (by_place image) (placed_volume image ds) most_depth root_id ≡ show_directory by_bytes (volume image ds) most_depth root_id
  lines_are = sym (rw (volume_places image ds) (show_directory_map (by_place image) by_bytes (bytes_at image) (place_views image) (placed_volume image ds) most_depth root_id))

  -- no more entries than inodes
  pub entries_few : length (ids_shown (show_directory (by_place image) (placed_volume image ds) most_depth root_id)) ≤ length (inode_ids by_bytes (volume image ds))
  entries_few = rw lines_are (shown_few by_bytes (volume image ds) (volume_sound image ds))

  -- a mounted volume's text was written
  pub tree_answers : mount_number image ds ≡ 0 → (x x' : Bytes) (n : ℕ) → Wrote x 0 (tree_text (by_place image) (placed_volume image ds)) x' n
      → Answers image ds x x' (record { number = 0; length = n })
  unfolding attempt_tree tree_answer buffer_with
  tree_answers e x x' n w = record {
    answer = rw (attempt_tree, eq-eqb (mount_number image ds) 0 e, ← text_is) (ap (λ (k : ℕ). record { number = 0; length = k }) (w.goes_on ∙ zero-add _));
    buffer = rw (attempt_tree, eq-eqb (mount_number image ds) 0 e, ← text_is) (w.written ∙ clip_front x (tree_text (by_place image) (placed_volume image ds)));
  }

-- the rows of a table of inodes, in order, with those of the blocks
pub rows_list : (image : Bytes) (v : Volume ℕ) (ids spots block_ids block_spots : List ℕ) → length spots ≡ length ids
    → RowsOf (by_place image) v.inodes ids spots → BlocksOf image block_ids block_spots v
    → Lists image block_ids block_spots (sort (place_before image) spots) v
rows_list image v ids spots block_ids block_spots pairs rows blocks = record {
  blocks = blocks;
  inodes = ordered image v ids spots pairs rows;
  counts = ordered_counts image v ids spots pairs rows;
}

-- the inode that a table of inodes has for an id lies in the image
pub found_inode : {image : Bytes} {ids spots : List ℕ} → InodeTable image ids spots → (i q : ℕ) → found (length ids) ids spots i ≡ some q → InodeAt image q
found_inode {image} {ids} {spots} t i q e =
    let h = held_some (length ids) spots (row_of (length ids) ids i) q e in
    rw (← h.1) (t.usable.lie (row_of (length ids) ids i) h.0, t.kind (row_of (length ids) ids i) h.0)

-- a mounted volume has a root: check 7
pub root_found : (image : Bytes) (ds : List Descriptor) → mount_number image ds ≡ 0 → inode_of (by_place image) (placed_volume image ds) root_id ≢ none
unfolding no_root
root_found image ds e z =
    let r = (passes image ds e).root in
    let n : inode_of by_bytes (volume image ds) root_id ≡ none = inode_is image ds root_id ∙ ap (over (bytes_at image)) z in
    let f : true ≡ false = rw n at r in
    let c : ◌≡◌ {A = ℕ} 0 1 = cc in
    omega (arith, c)

-- a refused mount is passed on, and nothing is written
pub tree_refused : {image : Bytes} {ds : List Descriptor} {n : ℕ} → n ≡ mount_number image ds → n ≢ 0 → (x : Bytes)
    → Answers image ds x x (record { number = n; length = 0 })
unfolding attempt_tree tree_answer buffer_with
tree_refused {image} {ds} {n} e h x =
    let z : eqb (mount_number image ds) 0 ≡ false = ne_eqb (mount_number image ds) 0 (λ q. h (e ∙ q)) in
    record { answer = rw (attempt_tree, z, ← e); buffer = rw (attempt_tree, z) }

-- and so is a refusal by its name
pub refusal_passed : (image : Bytes) (ds : List Descriptor) (r : Refusal) → code r ≡ mount_number image ds → (x : Bytes) → Answers image ds x x (tree_seen (Err r))
refusal_passed image ds r e x = tree_refused e (code_nonzero r) x
