-- The walk: what a directory's loop has shown so far, and what an entry shows.
use Prim.Native.Nat.{ℕ, zero, suc, ◌+◌, ◌-◌, ◌≤◌, ◌<◌}
use Rattle.std.specs.Prelude.{◌≡◌, refl, ◌≢◌, true, false, length, drop, T}
use Rattle.std.proofs.Common.{ap, ◌∙◌, arith, add-zero, sub-one, drop_of_length-le, eq-eqb, ne_eqb}
use Rattle.std.proofs.Math.Option.{some}
use mathlib.Core.List.{List, [], ◌∷◌, ◌++◌, append-nil}
use Rattle.std.proofs.Math.ListN.{get_or}
use Rattle.format.specs.Bytes.{Bytes}
use Rattle.format.specs.Ids.{root_id, is_directory_id}
use Rattle.volume.specs.Lists.{keep, joined}
use Rattle.volume.specs.Counting.{Volume, inode_of}
use Rattle.volume.specs.Fate.{live, ascend, fate_of}
use Rattle.volume.specs.Listing.{most_depth, shown, deeper_for, show_entry, show_directory, tree_lines, words_of, line_of, tree_text}
use Rattle.volume_laws.specs.Lists.{get_or_mem}
use Rattle.volume_laws.specs.Tests.{true→T}
use Rattle.volume_laws.specs.Counting.{counting_mem}
use Rattle.volume_laws.specs.Climb.{fate_own}
use Rattle.volume_laws.specs.Listing.{ids_shown, no_ids_deeper}
use Rattle.record_places.specs.Place.{by_place}
use Rattle.text_write.specs.Clip.{Wrote, wrote_then}
use Rattle.tree_show.specs.Show.{Lists, entry_lines, entries_at, entry_lives}
use Rattle.tree_show.specs.Going.{
  reach,
  text_of,
  Shown,
  shown_then,
  Going,
  going_begins,
  going_few,
  going_step,
  going_ends,
  coming_lines,
  directory_lines,
  directory_deeper,
  entries_next,
  DirectoryShown,
  EntryShown,
}
use Rattle.tree_show.specs.declared.Cursor.{Cursor}

-- what a directory shows, by the number of levels
whole : {image : Bytes} {ids spots order : List ℕ} {v : Volume ℕ} (l : Lists image ids spots order v) (d : ℕ)
    → T (is_directory_id d) → fate_of (by_place image) v d ≡ live → (levels : ℕ) → levels ≢ 0
    → show_directory (by_place image) v levels d ≡ coming_lines image v (levels - 1) order d 0
whole l d t lives zero n = absurd (n refl)
whole l d t lives (suc k) n = rw sub-one (directory_lines l d t lives k)

-- The loop over the places: the entries before the place j are shown
pub record Walking (image : Bytes) (ids spots order : List ℕ) (d levels : ℕ) (x₀ : Bytes) (c₀ : Cursor) (x : Bytes) (c : Cursor) (j : ℕ) : Type 0 where
  pub within : j ≤ length order
  pub long : length x ≡ length x₀
  pub room : reach c ≤ reach c₀
  pub told : (v : Volume ℕ) → Lists image ids spots order v → T (is_directory_id d) → fate_of (by_place image) v d ≡ live
      → length (ids_shown (show_directory (by_place image) v levels d)) ≤ c₀.left
      → Going image v x₀ c₀ (show_directory (by_place image) v levels d) x c (coming_lines image v (levels - 1) order d j)

pub walking_begins : (image : Bytes) (ids spots order : List ℕ) (d levels : ℕ) → levels ≢ 0 → (x : Bytes) (c : Cursor)
    → Walking image ids spots order d levels x c x c 0
walking_begins image ids spots order d levels n x c = record {
  within = omega arith;
  long = refl;
  room = omega arith;
  told = λ v l t lives few. rw (whole l d t lives levels n) going_begins;
}

module _ {image : Bytes} {ids spots order : List ℕ} {d levels : ℕ} {x₀ : Bytes} {c₀ : Cursor} {x : Bytes} {c : Cursor} {j : ℕ}
    (w : Walking image ids spots order d levels x₀ c₀ x c j) where
  -- the inode at the place is none of the directory's
  pub walking_past : j < length order → (by_place image).parent (get_or order j 0) ≢ d → Walking image ids spots order d levels x₀ c₀ x c (j + 1)
  walking_past h n =
      let e = entries_next image order d j h in
      let f : entries_at image (drop j order) d ≡ entries_at image (drop (j + 1) order) d = rw (ne_eqb ((by_place image).parent (get_or order j 0)) d n) at e in
      record {
        within = omega arith;
        long = w.long;
        room = w.room;
        told = λ v l t lives few. let g = w.told v l t lives few in rw f at g;
      }

  -- it is one, and was shown
  pub walking_on : j < length order → (by_place image).parent (get_or order j 0) ≡ d → (x' : Bytes) (c' : Cursor) → length x' ≡ length x → reach c' ≤ reach c
      → EntryShown image ids spots order (get_or order j 0) (levels - 1) x c x' c'
      → Walking image ids spots order d levels x₀ c₀ x' c' (j + 1)
  unfolding joined
  walking_on h e x' c' same less s =
      let n = entries_next image order d j h in
      let f : entries_at image (drop j order) d ≡ get_or order j 0 ∷ entries_at image (drop (j + 1) order) d =
      rw (eq-eqb ((by_place image).parent (get_or order j 0)) d e) at n in
      record {
        within = omega arith;
        long = same ∙ w.long;
        room = omega (arith, w.room);
        told = λ v l t lives few.
            let p = get_or order j 0 in
            let m = get_or_mem order j 0 h in
            let q = w.told v l t lives few in
            let g : Going image v x₀ c₀ (show_directory (by_place image) v levels d) x c (entry_lines image v (levels - 1) p ++ coming_lines image v (levels - 1) order d (j + 1)) = rw f at q in
            going_step _ _ g (s v l (l.counts p m) (entry_lives l d t lives p m e) (going_few _ _ g few));
      }

  -- none is left
  pub walking_ends : length order ≤ j → DirectoryShown image ids spots order d levels x₀ c₀ x c
  unfolding entries_at keep joined
  walking_ends h v l t lives few =
      let g = w.told v l t lives few in
      going_ends (rw (drop_of_length-le order h) at g)

-- with no level left
pub deeper_shown : (image : Bytes) (ids spots order : List ℕ) (d levels : ℕ) → levels ≡ 0 → (x : Bytes) (c : Cursor) (y : Bytes) (r : ℕ)
    → ((v : Volume ℕ) → Wrote x c.at (text_of image v (deeper_for (entries_at image order d))) y r)
    → DirectoryShown image ids spots order d levels x c y (record { at = r; left = c.left })
deeper_shown image ids spots order d levels z x c y r wrote v l t lives few =
    let e : show_directory (by_place image) v levels d ≡ deeper_for (entries_at image order d) = rw z (directory_deeper l d t lives) in
    let s = wrote v in
    rw e record {
      next = s.goes_on;
      left = rw (no_ids_deeper (entries_at image order d)) (add-zero c.left);
      written = s.written;
    }

-- ---- an entry

-- no number is left for it
pub entry_none : (image : Bytes) (ids spots order : List ℕ) (p k : ℕ) (x : Bytes) (c : Cursor) → c.left ≡ 0 → EntryShown image ids spots order p k x c x c
unfolding show_entry ids_shown
entry_none image ids spots order p k x c z v l counts lives few = absurd (omega (arith, few, z))

module _ (image : Bytes) (p k : ℕ) {x : Bytes} {c : Cursor} {y : Bytes} {next : Cursor} (some_left : 0 < c.left) (less : next.left ≡ c.left - 1) where
  -- its line
  line_shown : (v : Volume ℕ) → Wrote x c.at (line_of (most_depth - k) (words_of (by_place image) v ((by_place image).id p))) y next.at
      → Shown image v x c (shown (most_depth - k) ((by_place image).id p) ∷ []) y next
  unfolding joined ids_shown
  line_shown v s =
      let e = append-nil (line_of (most_depth - k) (words_of (by_place image) v ((by_place image).id p))) in
      record { next = rw e s.goes_on; left = omega arith; written = rw e s.written }

  module _ {ids spots order : List ℕ}
      (wrote : (v : Volume ℕ) → Lists image ids spots order v → inode_of (by_place image) v ((by_place image).id p) ≡ some p
      → Wrote x c.at (line_of (most_depth - k) (words_of (by_place image) v ((by_place image).id p))) y next.at) where
    pub entry_file : is_directory_id ((by_place image).id p) ≡ false → EntryShown image ids spots order p k x c y next
    unfolding show_entry
    entry_file e v l counts lives few = rw (show_entry, e) (line_shown v (wrote v l counts))

    pub entry_directory : is_directory_id ((by_place image).id p) ≡ true → (z : Bytes) (c' : Cursor)
        → DirectoryShown image ids spots order ((by_place image).id p) k y next z c' → EntryShown image ids spots order p k x c z c'
    unfolding show_entry ids_shown
    entry_directory e z c' s v l counts lives few =
        let a = line_shown v (wrote v l counts) in
        let f : suc (length (ids_shown (show_directory (by_place image) v k ((by_place image).id p)))) ≤ c.left = rw (show_entry, e) at few in
        rw (show_entry, e) (shown_then a (s v l (true→T e) lives (omega arith)))

-- ---- the whole tree

pub root_directory : T (is_directory_id root_id)
unfolding is_directory_id
root_directory = tt

module _ (image : Bytes) (v : Volume ℕ) (root : ℕ) (counts : inode_of (by_place image) v root_id ≡ some root) where
  pub root_id_lem : (by_place image).id root ≡ root_id
  root_id_lem = (counting_mem (by_place image) v.inodes root_id root counts).1

  pub root_counts : inode_of (by_place image) v ((by_place image).id root) ≡ some root
  root_counts = ap (inode_of (by_place image) v) root_id_lem ∙ counts

  pub root_lives : fate_of (by_place image) v root_id ≡ live
  unfolding ascend
  root_lives = fate_own (by_place image) v root_id live (rw (counts, ascend, root_id_lem))

  pub tree_wrote : {x y : Bytes} {r n : ℕ} {z : Bytes} {end : Cursor}
      → Wrote x 0 (line_of 0 (words_of (by_place image) v ((by_place image).id root))) y r
      → Shown image v y (record { at = r; left = n }) (show_directory (by_place image) v most_depth root_id) z end
      → Wrote x 0 (tree_text (by_place image) v) z end.at
  unfolding tree_text tree_lines joined
  tree_wrote {x} {y} {r} s t =
      let q : Wrote x 0 (line_of 0 (words_of (by_place image) v root_id)) y r = rw root_id_lem at s in
      wrote_then q (record { goes_on = t.next; written = t.written })
