-- How lines are shown one after the other: what is written, and how many entries may still be shown.
use Rattle.std.specs.List.{list_any}
use Rattle.std.specs.Prelude.{ℕ, suc, Bool, true, false, ◌||◌, ◌+◌, ◌-◌, ◌*◌, ◌≤◌, ◌<◌, ◌≡◌, cond, length, drop, get_or, T, eqb}
use Rattle.std.proofs.Math.Path.{refl, sym}
use Rattle.std.proofs.Common.{◌∙◌, arith, add-one, length-append, drop-cons}
use Rattle.std.proofs.Math.Option.{some}
use mathlib.Core.List.{List, [], ◌∷◌, ◌++◌, map, append-nil, append_assoc}
use Rattle.std.proofs.Math.Nat.{add-zero}
use Rattle.format.specs.Bytes.{Bytes}
use Rattle.format.specs.Ids.{is_directory_id}
use Rattle.volume.specs.Lists.{keep, joined}
use Rattle.volume.specs.Counting.{Volume, inode_of}
use Rattle.volume.specs.Fate.{live, fate_of}
use Rattle.volume.specs.Listing.{most_depth, Line, deeper, deeper_for, show_entry, show_directory, line_text, line_of, deeper_word}
use Rattle.volume_laws.specs.Lists.{joined_append, joined_map}
use Rattle.volume_laws.specs.Listing.{ids_shown, ids_append}
use Rattle.record_places.specs.Place.{by_place}
use Rattle.text_write.specs.Clip.{clip, clip_append, clip_none, Wrote}
use Rattle.tree_show.specs.Show.{Lists, entry_lines, entries_at, entries_are}
use Rattle.tree_show.specs.declared.Cursor.{Cursor}

-- the room that an entry takes at most: its line, and a line `deeper` below it
abbrev pub entry_room : ℕ
entry_room = 512

abbrev pub deeper_room : ℕ
deeper_room = 128

-- the room that what may still be shown takes at most, counted from the start of the text
abbrev pub reach : Cursor → ℕ
reach c = c.at + c.left * entry_room

-- the text of some lines
abbrev pub text_of : Bytes → Volume ℕ → List Line → Bytes
text_of image v = joined (line_text (by_place image) v)

pub deeper_text : (image : Bytes) (v : Volume ℕ) → text_of image v (deeper ∷ []) ≡ line_of (suc most_depth) deeper_word
unfolding joined
deeper_text image v = append-nil (line_of (suc most_depth) deeper_word)

pub nothing_wrote : (image : Bytes) (v : Volume ℕ) (x : Bytes) (p : ℕ) → Wrote x p (text_of image v []) x p
unfolding joined
nothing_wrote image v x p = record { goes_on = sym (add-zero p); written = sym (clip_none x p) }

-- lines were shown: they are written, and their inodes counted
pub record Shown (image : Bytes) (v : Volume ℕ) (x : Bytes) (c : Cursor) (lines : List Line) (x' : Bytes) (c' : Cursor) : Type 0 where
  pub next : c'.at ≡ c.at + length (text_of image v lines)
  pub left : c'.left + length (ids_shown lines) ≡ c.left
  pub written : x' ≡ clip x c.at (text_of image v lines)

module _ {image : Bytes} {v : Volume ℕ} where
  pub shown_none : (x : Bytes) (c : Cursor) → Shown image v x c [] x c
  unfolding joined ids_shown
  shown_none x c = record { next = sym (add-zero c.at); left = add-zero c.left; written = sym (clip_none x c.at) }

  -- lines after lines
  pub shown_then : {x : Bytes} {c : Cursor} {a : List Line} {y : Bytes} {d : Cursor} {b : List Line} {z : Bytes} {e : Cursor}
      → Shown image v x c a y d → Shown image v y d b z e → Shown image v x c (a ++ b) z e
  shown_then {x} {c} {a} {y} {d} {b} {z} {e} s t =
      let j = joined_append (line_text (by_place image) v) a b in
      record {
        next = rw (j, length-append (text_of image v a) (text_of image v b)) (omega (arith, s.next, t.next));
        left = rw (ids_append a b, length-append (ids_shown a) (ids_shown b)) (omega (arith, s.left, t.left));
        written = rw (j, t.written, s.written, s.next) (clip_append x c.at (text_of image v a) (text_of image v b));
      }

-- `rest` of the lines `whole` is still to be shown
pub record Going (image : Bytes) (v : Volume ℕ) (x₀ : Bytes) (c₀ : Cursor) (whole : List Line) (x : Bytes) (c : Cursor) (rest : List Line) : Type 0 where
  pub done : List Line
  pub parts : done ++ rest ≡ whole
  pub shown : Shown image v x₀ c₀ done x c

module _ {image : Bytes} {v : Volume ℕ} {x₀ : Bytes} {c₀ : Cursor} {whole : List Line} where
  pub going_begins : Going image v x₀ c₀ whole x₀ c₀ whole
  going_begins = record { done = []; parts = refl; shown = shown_none x₀ c₀ }

  pub going_ends : {x : Bytes} {c : Cursor} → Going image v x₀ c₀ whole x c [] → Shown image v x₀ c₀ whole x c
  going_ends g = rw (← g.parts, append-nil g.done) g.shown

  -- there is a number for each entry to come
  pub going_few : {x : Bytes} {c : Cursor} (a rest : List Line) → Going image v x₀ c₀ whole x c (a ++ rest) → length (ids_shown whole) ≤ c₀.left
      → length (ids_shown a) ≤ c.left
  going_few {x} {c} a rest g h =
      let e : length (ids_shown whole) ≡ length (ids_shown g.done) + (length (ids_shown a) + length (ids_shown rest)) =
      rw (← g.parts, ids_append g.done (a ++ rest), ids_append a rest, length-append (ids_shown g.done) (ids_shown a ++ ids_shown rest), length-append (ids_shown a) (ids_shown rest)) in
      omega (arith, g.shown.left)

  pub going_step : {x : Bytes} {c : Cursor} (a rest : List Line) {y : Bytes} {d : Cursor} → Going image v x₀ c₀ whole x c (a ++ rest)
      → Shown image v x c a y d → Going image v x₀ c₀ whole y d rest
  going_step {x} {c} a rest {y} {d} g s = record {
    done = g.done ++ a;
    parts = append_assoc g.done a rest ∙ g.parts;
    shown = shown_then g.shown s;
  }

-- ---- a directory's entries, in the order of their places

-- what is to come from the place j on
abbrev pub coming_lines : Bytes → Volume ℕ → ℕ → List ℕ → ℕ → ℕ → List Line
coming_lines image v k order d j = joined (entry_lines image v k) (entries_at image (drop j order) d)

module _ {image : Bytes} {ids spots order : List ℕ} {v : Volume ℕ} (l : Lists image ids spots order v) (d : ℕ)
    (t : T (is_directory_id d)) (lives : fate_of (by_place image) v d ≡ live) where
  pub directory_lines : (k : ℕ) → show_directory (by_place image) v (suc k) d ≡ coming_lines image v k order d 0
  unfolding show_directory
  directory_lines k =
      rw (show_directory, ← entries_are l d t lives)
      (joined_map (by_place image).id (show_entry (show_directory (by_place image) v k) (most_depth - k)) (entries_at image order d))

  pub directory_deeper : show_directory (by_place image) v 0 d ≡ deeper_for (entries_at image order d)
  unfolding show_directory
  directory_deeper = rw (show_directory, ← entries_are l d t lives) (go (entries_at image order d))
    where
      go : (ps : List ℕ) → deeper_for (map (by_place image).id ps) ≡ deeper_for ps
      go [] = refl
      go (p ∷ ps) = refl

-- one place further
pub entries_next : (image : Bytes) (order : List ℕ) (d j : ℕ) → j < length order
    → entries_at image (drop j order) d
    ≡ cond (eqb ((by_place image).parent (get_or order j 0)) d) (get_or order j 0 ∷ entries_at image (drop (j + 1) order) d) (entries_at image (drop (j + 1) order) d)
unfolding entries_at keep
entries_next image order d j h = rw (drop-cons order j 0 h, add-one)

-- whether there are any
pub any_entry : (image : Bytes) (order : List ℕ) (d : ℕ)
    → deeper_for (entries_at image order d) ≡ cond (list_any (λ p. eqb ((by_place image).parent p) d) order) (deeper ∷ []) []
unfolding entries_at keep
any_entry image [] d = refl
any_entry image (p ∷ order) d = go (eqb ((by_place image).parent p) d) (any_entry image order d)
  where
    test : ℕ → Bool
    test q = eqb ((by_place image).parent q) d

    go : (t : Bool) → deeper_for (keep test order) ≡ cond (list_any test order) (deeper ∷ []) []
        → deeper_for (cond t (p ∷ keep test order) (keep test order)) ≡ cond (t || list_any test order) (deeper ∷ []) []
    go true e = refl
    go false e = e

-- ---- what the two functions tell, for a volume that the tables hold

-- a directory was shown, of k more levels
abbrev pub DirectoryShown : Bytes → List ℕ → List ℕ → List ℕ → ℕ → ℕ → Bytes → Cursor → Bytes → Cursor → Type 0
DirectoryShown image ids spots order d k x c x' c' =
    (v : Volume ℕ) → Lists image ids spots order v → T (is_directory_id d) → fate_of (by_place image) v d ≡ live
    → length (ids_shown (show_directory (by_place image) v k d)) ≤ c.left → Shown image v x c (show_directory (by_place image) v k d) x' c'

-- an entry was shown, of k more levels below it
abbrev pub EntryShown : Bytes → List ℕ → List ℕ → List ℕ → ℕ → ℕ → Bytes → Cursor → Bytes → Cursor → Type 0
EntryShown image ids spots order p k x c x' c' =
    (v : Volume ℕ) → Lists image ids spots order v → inode_of (by_place image) v ((by_place image).id p) ≡ some p → fate_of (by_place image) v ((by_place image).id p) ≡ live
    → length (ids_shown (entry_lines image v k p)) ≤ c.left → Shown image v x c (entry_lines image v k p) x' c'
