-- The choice by places and tables is the choice by bytes and volume.
use Rattle.std.specs.Prelude.{ℕ, ◌+◌, ◌≡◌, ◌&&◌, ◌||◌, length, eqb}
use Rattle.std.proofs.Math.Path.{refl, sym, ap}
use Rattle.std.proofs.Common.{◌∙◌, arith}
use Rattle.std.proofs.Math.Bool.{Bool, true, false, cond, not}
use Rattle.std.proofs.Math.Option.{Option, none, some}
use mathlib.Core.List.{List, ◌++◌, map}
use Rattle.format.specs.Bytes.{Bytes, le32}
use Rattle.format.specs.Record.{record_id, record_link}
use Rattle.volume.specs.Lists.{keep, all, same, has}
use Rattle.volume.specs.View.{View, by_bytes}
use Rattle.volume.specs.Counting.{Volume, inode_of, block_of}
use Rattle.volume.specs.Fate.{is_dead, fate_of, block_dead}
use Rattle.volume_laws.specs.Lists.{keep_cong, keep_keep, keep_map, all_map, all_cong}
use Rattle.volume_laws.specs.Map.{over, over_volume, inode_of_map, block_of_map, fate_of_map}
use Rattle.calls.specs.Collect.{counts, drops_block, names_inode, drops_inode, drops, copies}
use Rattle.record_places.specs.Place.{bytes_at, block_at, by_place}
use Rattle.record_places.specs.Laws.{place_views}
use Rattle.table_rows.specs.Table.{found}
use Rattle.inode_fate.specs.Fates.{fate_by}
use Rattle.inode_fate.specs.Laws.{fate_rows}
use Rattle.collect_copies.specs.Copied.{Tables, table_of, AllRows, inside, holds, unheld, dropped, counts_in, copied, first_at, copied_places}
use Rattle.collect_copies.specs.Lists.{all_keep, all_append, all_both}
use Rattle.collect_copies.specs.First.{first_keep, first_bytes, alike_bytes}

has_bytes : (image : Bytes) (p : ℕ) (o : Option ℕ) → has (same (bytes_at image p)) (over (bytes_at image) o) ≡ has ((by_place image).same p) o
has_bytes image p none = refl
has_bytes image p (some q) = refl

-- a volume held by place, and its tables
module _ (image : Bytes) (v : Volume ℕ) (t : Tables) (rows : AllRows (by_place image) v t) where
  abbrev F : View ℕ
  F = by_place image

  abbrev f : ℕ → Bytes
  f = bytes_at image

  abbrev w : Volume Bytes
  w = over_volume (bytes_at image) v

  id_of_lem : (p : ℕ) → record_id (f p) ≡ le32 image (p + 4)
  id_of_lem p = (place_views image).id p

  link_of : (p : ℕ) → record_link (f p) ≡ le32 image (p + 12)
  link_of p = (place_views image).parent p

  kind_of_lem : (p : ℕ) → by_bytes.is_block (f p) ≡ block_at image p
  kind_of_lem p = (place_views image).is_block p

  -- a record counts
  counts_is : (p : ℕ) → counts w (f p) ≡ counts_in image (table_of (block_at image p) t) p
  unfolding counts counts_in
  counts_is p = rw (counts, kind_of_lem p, id_of_lem p) (go (block_at image p))
    where
      go : (b : Bool) → cond b (has (same (f p)) (block_of by_bytes w (le32 image (p + 4)))) (has (same (f p)) (inode_of by_bytes w (le32 image (p + 4))))
          ≡ has (F.same p) (found (length (table_of b t).ids) (table_of b t).ids (table_of b t).spots (le32 image (p + 4)))
      go true =
          rw (block_of_map F by_bytes f (place_views image) v (le32 image (p + 4)), rows.blocks.counts (le32 image (p + 4)))
          (has_bytes image p (found (length t.blocks.ids) t.blocks.ids t.blocks.spots (le32 image (p + 4))))
      go false =
          rw (inode_of_map F by_bytes f (place_views image) v (le32 image (p + 4)), rows.inodes.counts (le32 image (p + 4)))
          (has_bytes image p (found (length t.inodes.ids) t.inodes.ids t.inodes.spots (le32 image (p + 4))))

  -- a fate by the table
  fate_is : (i : ℕ) → fate_of by_bytes w i ≡ fate_by F (length t.inodes.ids) t.inodes.ids t.inodes.spots i
  fate_is i =
      fate_of_map F by_bytes f (place_views image) v i
      ∙ sym (fate_rows F v (length t.inodes.ids) t.inodes.ids t.inodes.spots rows.inodes (omega arith) i)

  -- the records at places ps, of which those among the n bytes from o on lie in the source
  module _ (o n : ℕ) (ps : List ℕ) where
    abbrev near : List Bytes
    near = map (bytes_at image) (keep (inside o n) ps)

    abbrev far : List Bytes
    far = map (bytes_at image) (keep (λ p. not (inside o n p)) ps)

    -- the records elsewhere tested
    far_all : (g : Bytes → Bool) → all g far ≡ all (λ q. cond (not (inside o n q)) (g (f q)) true) ps
    far_all g = all_map f g (keep (λ p. not (inside o n p)) ps) ∙ all_keep (λ q. g (f q)) (λ p. not (inside o n p)) ps

    -- and those of the source that pass a filter
    near_all : (g h : Bytes → Bool) → all g (keep h near) ≡ all (λ q. cond (inside o n q && h (f q)) (g (f q)) true) ps
    near_all g h =
        ap (all g) (keep_map f h (keep (inside o n) ps) ∙ ap (map f) (keep_keep (λ q. h (f q)) (inside o n) ps))
        ∙ all_map f g (keep (λ q. inside o n q && h (f q)) ps)
        ∙ all_keep (λ q. g (f q)) (λ q. inside o n q && h (f q)) ps

    block_held : (i : ℕ) → all (λ c. not (eqb (record_id c) i)) far ≡ unheld image o n ps i true
    unfolding unheld holds
    block_held i =
        far_all (λ c. not (eqb (record_id c) i))
        ∙ all_cong _ _ ps (λ q m. rw (id_of_lem q) (go (inside o n q) (eqb (le32 image (q + 4)) i)))
      where
        go : (a b : Bool) → cond (not a) (not b) true ≡ not (cond b (not a) false)
        go true true = refl
        go true false = refl
        go false true = refl
        go false false = refl

    inode_held : (i : ℕ) → all (λ c. not (names_inode i c)) (keep (λ c. not (eqb (record_id c) i)) near ++ far) ≡ unheld image o n ps i false
    unfolding unheld holds names_inode
    inode_held i =
        all_append (λ c. not (names_inode i c)) (keep (λ c. not (eqb (record_id c) i)) near) far
        ∙ rw (near_all (λ c. not (names_inode i c)) (λ c. not (eqb (record_id c) i)), far_all (λ c. not (names_inode i c)))
        (all_both _ _ ps
        ∙ all_cong _ _ ps (λ q m. rw (id_of_lem q, link_of q) (go (inside o n q) (eqb (le32 image (q + 4)) i) (eqb (le32 image (q + 12)) i))))
      where
        go : (a b c : Bool) → (cond (a && not b) (not (b || c)) true && cond (not a) (not (b || c)) true) ≡ not (cond b (not a) c)
        go true true c = refl
        go true false true = refl
        go true false false = refl
        go false true c = refl
        go false false true = refl
        go false false false = refl

    drops_is : (p : ℕ) → drops w near far (f p) ≡ dropped image o n ps t.inodes p
    unfolding drops drops_block drops_inode dropped block_dead
    drops_is p = rw (drops, kind_of_lem p) (go (block_at image p))
      where
        go : (b : Bool) → cond b (drops_block w far (f p)) (drops_inode w near far (f p))
            ≡ (is_dead (fate_by F (length t.inodes.ids) t.inodes.ids t.inodes.spots (cond b (le32 image (p + 12)) (le32 image (p + 4))))
            && unheld image o n ps (le32 image (p + 4)) b)
        go true = rw (id_of_lem p, link_of p, fate_is (le32 image (p + 12)), block_held (le32 image (p + 4)))
        go false = rw (id_of_lem p, fate_is (le32 image (p + 4)), inode_held (le32 image (p + 4)))

    -- the copies by their places are the copies
    pub copies_are : map (bytes_at image) (copied_places image o n ps t) ≡ copies (over_volume (bytes_at image) v) near far
    unfolding copied_places copied copies
    copies_are =
        let test : Bytes → Bool = λ b. counts w b && not (drops w near far b) in
        let e : keep (copied image o n ps t) ps ≡ keep (λ q. test (f q)) (keep (inside o n) ps)
        = keep_cong _ _ ps (λ p m. rw (counts_is p, drops_is p)) ∙ sym (keep_keep (λ q. test (f q)) (inside o n) ps) in
        ap (λ l. map f (first_at image l)) e
        ∙ ap (map f) (first_keep image (λ q. test (f q)) (λ p q s. ap test (alike_bytes image p q s)) (keep (inside o n) ps))
        ∙ sym (keep_map f test (first_at image (keep (inside o n) ps)))
        ∙ ap (keep test) (first_bytes image (keep (inside o n) ps))
