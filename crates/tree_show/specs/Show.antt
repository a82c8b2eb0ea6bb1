-- What the tree shows of a volume whose inodes are held by their places, in order.
use Rattle.std.specs.Prelude.{ℕ, ◌-◌, ◌≤◌, ◌≡◌, ◌≢◌, Bool, ◌&&◌, length, replicate, T}
use Rattle.std.proofs.Math.Path.{refl, sym, ap}
use Rattle.std.proofs.Common.{◌∙◌, eqb-true}
use Rattle.std.proofs.Math.Bool.{true, false}
use Rattle.std.proofs.Math.Option.{Option, none, some}
use mathlib.Core.List.{List, [], ◌∷◌, ◌++◌, map, append-nil, Memᴰ}
use Rattle.std.proofs.Math.Dec.{eqb}
use Rattle.format.specs.Bytes.{Bytes}
use Rattle.format.specs.Ids.{NONE, root_id, is_directory_id}
use Rattle.volume.specs.Lists.{keep, sort}
use Rattle.volume.specs.Counting.{Volume, inode_of, inode_ids}
use Rattle.volume.specs.Fate.{live, is_live, ascend, fate_of}
use Rattle.volume.specs.Contents.{file_blocks}
use Rattle.volume.specs.Listing.{
  most_depth,
  Line,
  show_entry,
  comes_before,
  is_live_child,
  entries_of,
  show_directory,
  decimal,
  broken_word,
  printed,
  name_of,
  size_word,
  words_of,
  line_of,
}
use Rattle.volume_laws.specs.Tests.{eqb_differ}
use Rattle.volume_laws.specs.Lists.{keep_cong, keep_map}
use Rattle.volume_laws.specs.Climb.{fate_own, fate_parent}
use Rattle.volume_laws.specs.Listing.{directory_not_none}
use Rattle.calls.specs.Mount.{most_blocks}
use Rattle.record_places.specs.Place.{by_place}
use Rattle.table_rows.specs.Rows.{BlockTable}
use Rattle.file_blocks.specs.Blocks.{BlocksOf, text_size}
use Rattle.inode_order.specs.Order.{Inodes}
use Rattle.text_write.specs.Clip.{Wrote, wrote_then}

-- the inodes that name a directory as their parent
unfoldable pub entries_at : Bytes → List ℕ → ℕ → List ℕ
entries_at image order d = keep (λ p. eqb ((by_place image).parent p) d) order

-- what a line says of a file of a size, or of none
abbrev pub word_for : Option ℕ → Bytes
word_for none = broken_word
word_for (some n) = decimal n

pub size_word_lem : (image : Bytes) (o : Option (List ℕ)) (s : Option ℕ) → s ≡ text_size (by_place image) o → size_word (by_place image) o ≡ word_for s
size_word_lem image none s e = sym (ap word_for e)
size_word_lem image (some bs) s e = sym (ap word_for e)

-- what a line says of the inode at a place
module _ (image : Bytes) (v : Volume ℕ) (p : ℕ) where
  pub root_words : (by_place image).id p ≡ root_id → words_of (by_place image) v ((by_place image).id p) ≡ 47 ∷ []
  unfolding words_of
  root_words e = rw (e, words_of)

  module _ (counts : inode_of (by_place image) v ((by_place image).id p) ≡ some p) (below : (by_place image).id p ≢ root_id) where
    pub directory_words : is_directory_id ((by_place image).id p) ≡ true → words_of (by_place image) v ((by_place image).id p) ≡ printed ((by_place image).name p)
    unfolding words_of name_of
    directory_words e = rw (words_of, eqb_differ ((by_place image).id p) root_id below, e, name_of, counts) (append-nil (printed ((by_place image).name p)))

    pub file_words : is_directory_id ((by_place image).id p) ≡ false
        → words_of (by_place image) v ((by_place image).id p)
        ≡ printed ((by_place image).name p) ++ (32 ∷ size_word (by_place image) (file_blocks (by_place image) v ((by_place image).id p)))
    unfolding words_of name_of
    file_words e = rw (words_of, eqb_differ ((by_place image).id p) root_id below, e, name_of, counts)

-- a line is written
pub wrote_line : (depth : ℕ) (words : Bytes) {x : Bytes} {p : ℕ} {y : Bytes} {q : ℕ} {z : Bytes} {r : ℕ} {x' : Bytes} {p' : ℕ}
    → Wrote x p (replicate depth 32) y q → Wrote y q words z r → Wrote z r (10 ∷ []) x' p' → Wrote x p (line_of depth words) x' p'
unfolding line_of
wrote_line depth words s t u = wrote_then (wrote_then s t) u

-- Safety of the blocks and of the inodes
pub record Showable (image : Bytes) (ids spots order : List ℕ) : Type 0 where
  pub blocks : BlockTable image ids spots
  pub few : length ids ≤ most_blocks
  pub inodes : Inodes image order

-- Meaning: these are the blocks of a volume, and its inodes in order
pub record Lists (image : Bytes) (ids spots order : List ℕ) (v : Volume ℕ) : Type 0 where
  pub blocks : BlocksOf image ids spots v
  pub inodes : map (by_place image).id order ≡ sort (comes_before (by_place image) v) (inode_ids (by_place image) v)
  pub counts : (p : ℕ) → Memᴰ p order → inode_of (by_place image) v ((by_place image).id p) ≡ some p

-- what is shown of the inode at a place, with k more levels below it
abbrev pub entry_lines : Bytes → Volume ℕ → ℕ → ℕ → List Line
entry_lines image v k p = show_entry (show_directory (by_place image) v k) (most_depth - k) ((by_place image).id p)

module _ {image : Bytes} {ids spots order : List ℕ} {v : Volume ℕ} (l : Lists image ids spots order v) (d : ℕ)
    (t : T (is_directory_id d)) (lives : fate_of (by_place image) v d ≡ live) where
  -- what names a live directory as its parent is live
  pub entry_lives : (p : ℕ) → Memᴰ p order → (by_place image).parent p ≡ d → fate_of (by_place image) v ((by_place image).id p) ≡ live
  unfolding ascend
  entry_lives p m e = go (eqb ((by_place image).id p) root_id) refl
    where
      not_none : (by_place image).parent p ≢ NONE
      not_none z = directory_not_none d t (sym e ∙ z)

      go : (b : Bool) → eqb ((by_place image).id p) root_id ≡ b → fate_of (by_place image) v ((by_place image).id p) ≡ live
      go true q = fate_own (by_place image) v ((by_place image).id p) live (rw (l.counts p m, ascend, q))
      go false q =
          fate_parent (by_place image) v ((by_place image).id p) p (rw (l.counts p m, ascend, q, eqb_differ ((by_place image).parent p) NONE not_none)) ∙ ap (fate_of (by_place image) v) e ∙ lives

  -- so they are its entries
  pub entries_are : map (by_place image).id (entries_at image order d) ≡ entries_of (by_place image) v d
  unfolding entries_at entries_of is_live_child
  entries_are =
      sym (rw (entries_of, ← l.inodes) (keep_map (by_place image).id (is_live_child (by_place image) v d) order
      ∙ ap (map (by_place image).id) (keep_cong _ _ order alike)))
    where
      test : (p : ℕ) → Memᴰ p order → (b : Bool) → eqb ((by_place image).parent p) d ≡ b → (b && is_live (fate_of (by_place image) v ((by_place image).id p))) ≡ b
      test p m true q = rw (entry_lives p m (eqb-true ((by_place image).parent p) d q))
      test p m false q = refl

      alike : (p : ℕ) → Memᴰ p order → is_live_child (by_place image) v d ((by_place image).id p) ≡ eqb ((by_place image).parent p) d
      alike p m = rw (is_live_child, l.counts p m) (test p m (eqb ((by_place image).parent p) d) refl)
