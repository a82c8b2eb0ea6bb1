-- The chain of a file's blocks, followed back block by block.
use Prim.Native.Nat.{ℕ, zero, suc, ◌+◌, ◌-◌, ◌≤◌, ◌<◌}
use Rattle.std.proofs.Math.Path.{◌≡◌, refl, sym, ap}
use Rattle.std.proofs.Common.{◌∙◌, length-take, length-drop}
use Rattle.std.specs.Prelude.{Bool, take, drop, eqb}
use Rattle.std.proofs.Math.Bool.{true, false, cond}
use Rattle.std.proofs.Math.Option.{Option, none, some}
use mathlib.Core.List.{List, [], ◌∷◌, ◌++◌, map, append_assoc}
use native.Mathlib.Omega.{arith}
use Rattle.std.proofs.Math.ListN.{length, length-append}
use Rattle.format.specs.Bytes.{Bytes, le16}
use Rattle.format.specs.Ids.{NONE}
use Rattle.volume.specs.Lists.{bind, has}
use Rattle.volume.specs.View.{View, by_bytes}
use Rattle.volume.specs.Counting.{Volume, block_of}
use Rattle.volume.specs.Contents.{snoc, owns, owned, last_block, chain_back, file_blocks, text_of}
use Rattle.volume_laws.specs.Map.{over, over_volume, file_blocks_map, text_of_map}
use Rattle.record_places.specs.Place.{block_at, size_at, bytes_at, by_place, Lies}
use Rattle.record_places.specs.Laws.{size_block, place_views}
use Rattle.std.specs.Bool.{then_some}
use Rattle.table_rows.specs.Answer.{meant}
use Rattle.table_rows.specs.Table.{row_of, found}
use Rattle.table_rows.specs.Laws.{held_some}
use Rattle.table_rows.specs.Rows.{BlockTable, found_in}
use Rattle.file_blocks.specs.Blocks.{BlocksOf, text_size, block_for}

-- ---- the block that is looked for

module _ {A : Type 0} (F : View A) (f : ℕ) (c : ℕ → Option A) (i : ℕ) where
  pub block_absent : none ≡ c i → none ≡ block_for F f c i
  unfolding block_for
  block_absent e = rw (← e)

  pub block_owned : (p : A) → some p ≡ c i → meant (then_some (eqb (F.owner p) f) p) ≡ block_for F f c i
  unfolding block_for
  block_owned p e = rw (← e) (go (eqb (F.owner p) f))
    where
      go : (b : Bool) → meant (then_some b p) ≡ cond b (some p) none
      go true = refl
      go false = refl

  -- what is found so counts
  pub block_found : (p : A) → some p ≡ block_for F f c i → c i ≡ some p
  unfolding block_for
  block_found p e = go (c i) e
    where
      pick : (q : A) (b : Bool) → some p ≡ cond b (some q) none → some q ≡ some p
      pick q true e = sym e
      pick q false e = let z : ◌≡◌ {A = ℕ} 0 1 = cc in absurd (omega arith)

      go : (o : Option A) → some p ≡ bind o (λ q. cond (eqb (F.owner q) f) (some q) none) → o ≡ some p
      go none e = let z : ◌≡◌ {A = ℕ} 0 1 = cc in absurd (omega arith)
      go (some q) e = pick q (eqb (F.owner q) f) e

  -- one step back
  chain_step : (k : ℕ) → chain_back F c f (suc k) i ≡ bind (block_for F f c i) (λ r. snoc (chain_back F c f k (F.previous r)) r)
  unfolding chain_back owns block_for
  chain_step k = go (c i)
    where
      pick : (r : A) (b : Bool) → cond b (snoc (chain_back F c f k (F.previous r)) r) none
          ≡ bind (cond b (some r) none) (λ r. snoc (chain_back F c f k (F.previous r)) r)
      pick r true = refl
      pick r false = refl

      go : (o : Option A) → cond (has (λ r. eqb (F.owner r) f) o) (bind o (λ r. snoc (chain_back F c f k (F.previous r)) r)) none
          ≡ bind (bind o (λ p. cond (eqb (F.owner p) f) (some p) none)) (λ r. snoc (chain_back F c f k (F.previous r)) r)
      go none = refl
      go (some r) = pick r (eqb (F.owner r) f)

  pub chain_broken : (k : ℕ) → none ≡ block_for F f c i → chain_back F c f (suc k) i ≡ none
  chain_broken k e = chain_step k ∙ rw (← e)

  pub chain_block : (k : ℕ) (p : A) → some p ≡ block_for F f c i → chain_back F c f (suc k) i ≡ snoc (chain_back F c f k (F.previous p)) p
  chain_block k p e = chain_step k ∙ rw (← e)

-- where the count is used up
module _ {A : Type 0} (F : View A) (f : ℕ) (c : ℕ → Option A) where
  pub chain_whole : (i : ℕ) → eqb i NONE ≡ true → chain_back F c f 0 i ≡ some []
  unfolding chain_back
  chain_whole i e = rw e

  pub chain_more : (i : ℕ) → eqb i NONE ≡ false → chain_back F c f 0 i ≡ none
  unfolding chain_back
  chain_more i e = rw e

-- ---- the text of blocks

module _ {A : Type 0} (F : View A) where
  pub text_snoc : (xs : List A) (b : A) → text_of F (xs ++ (b ∷ [])) ≡ text_of F xs ++ F.text b
  unfolding text_of
  text_snoc [] b = go (F.text b)
    where
      go : (l : Bytes) → l ++ [] ≡ l
      go [] = refl
      go (x ∷ l) = rw (go l)
  text_snoc (a ∷ xs) b = rw (text_snoc xs b, append_assoc)

  pub text_more : (xs bs : List A) → text_of F (xs ++ bs) ≡ text_of F xs ++ text_of F bs
  unfolding text_of
  text_more [] bs = refl
  text_more (a ∷ xs) bs = rw (text_more xs bs, append_assoc)

  -- the size of a chain of which the last blocks, of s bytes, are followed
  unfoldable pub size_with : ℕ → Option (List A) → Option ℕ
  size_with s = over (λ bs. length (text_of F bs) + s)

  pub size_snoc : (s : ℕ) (o : Option (List A)) (b : A) → size_with s (snoc o b) ≡ size_with (s + length (F.text b)) o
  unfolding size_with
  size_snoc s none b = refl
  size_snoc s (some xs) b =
      let z : length (text_of F (xs ++ (b ∷ []))) + s ≡ length (text_of F xs) + (s + length (F.text b)) =
      omega (arith, ap length (text_snoc xs b), length-append (text_of F xs) (F.text b)) in
      ap some z

  pub size_begins : (o : Option (List A)) → size_with 0 o ≡ text_size F o
  unfolding size_with
  size_begins none = refl
  size_begins (some xs) = let z : length (text_of F xs) + 0 ≡ length (text_of F xs) = omega arith in ap some z

  -- one step back of the size, and its ends
  module _ (f : ℕ) (c : ℕ → Option A) (s : ℕ) where
    -- n bytes of the block p, and j before it
    pub size_step : (left i : ℕ) (p : A) (n j : ℕ) → 0 < left → some p ≡ block_for F f c i → n ≡ length (F.text p) → j ≡ F.previous p
        → size_with s (chain_back F c f left i) ≡ size_with (s + n) (chain_back F c f (left - 1) j)
    size_step zero i p n j h e m q = absurd (omega arith)
    size_step (suc k) i p n j h e m q =
        let z : suc k - 1 ≡ k = omega arith in
        ap (size_with s) (chain_block F f c i k p e) ∙ size_snoc s (chain_back F c f k (F.previous p)) p ∙ rw (z, m, q)

    pub size_broken : (left i : ℕ) → 0 < left → none ≡ block_for F f c i → size_with s (chain_back F c f left i) ≡ none
    unfolding size_with
    size_broken zero i h e = absurd (omega arith)
    size_broken (suc k) i h e = rw (chain_broken F f c i k e)

    pub size_ended : (left i : ℕ) → left ≤ 0 → meant (then_some (eqb i NONE) s) ≡ size_with s (chain_back F c f left i)
    unfolding size_with text_of
    size_ended zero i h = go (eqb i NONE) refl
      where
        go : (b : Bool) → eqb i NONE ≡ b → meant (then_some b s) ≡ size_with s (chain_back F c f 0 i)
        go true e = let z : s ≡ 0 + s = omega arith in rw (chain_whole F f c i e) (ap some z)
        go false e = rw (chain_more F f c i e)
    size_ended (suc k) i h = absurd (omega arith)

-- ---- over a table

-- a row that is found holds a block that lies in the image
module _ {image : Bytes} {ids spots : List ℕ} (table : BlockTable image ids spots) (f i p : ℕ)
    (e : some p ≡ block_for (by_place image) f (found (length ids) ids spots) i) where
  pub own_lies : Lies image p
  own_lies = found_in table.usable i p (block_found (by_place image) f (found (length ids) ids spots) i p e)

  pub own_block : block_at image p ≡ true
  own_block =
      let h = held_some (length ids) spots (row_of (length ids) ids i) p (block_found (by_place image) f (found (length ids) ids spots) i p e) in
      rw h.1 at (table.kind (row_of (length ids) ids i) h.0)

-- the data of a block
module _ (image : Bytes) (p : ℕ) (lies : Lies image p) (block : block_at image p ≡ true) where
  size_is : size_at image p ≡ 24 + le16 image (p + 20)
  size_is = size_block image p block

  pub data_inside : p + 24 + le16 image (p + 20) ≤ length image
  data_inside = omega (arith, size_is)

  pub data_is : (by_place image).text p ≡ take (le16 image (p + 20)) (drop (p + 24) image)
  data_is = let z : 24 + le16 image (p + 20) - 24 ≡ le16 image (p + 20) = omega arith in rw (size_is, z)

  pub data_long : le16 image (p + 20) ≡ length ((by_place image).text p)
  data_long = omega (arith, ap length data_is, length-take (le16 image (p + 20)) (drop (p + 24) image), length-drop (p + 24) image, data_inside)

  -- as the part of the image behind the header
  pub data_part : (n : ℕ) → n ≡ length ((by_place image).text p) → take (p + 24 + n - (p + 24)) (drop (p + 24) image) ≡ (by_place image).text p
  data_part n e =
      let z : p + 24 + n - (p + 24) ≡ le16 image (p + 20) = omega (arith, data_long) in
      ap (λ (k : ℕ). take k (drop (p + 24) image)) z ∙ sym data_is

-- the blocks of a volume, as the table has them
module _ (image : Bytes) (ids spots : List ℕ) (v : Volume ℕ) (rows : BlocksOf image ids spots v) (f : ℕ) where
  counts : block_of (by_place image) v ≡ found (length ids) ids spots
  counts = λ j i. rows.counts i j

  pub file_broken : none ≡ last_block (by_place image) v f → file_blocks (by_place image) v f ≡ none
  unfolding file_blocks
  file_broken e = rw (← e)

  pub file_chain : (i n : ℕ) → some i ≡ last_block (by_place image) v f → n ≡ length (owned (by_place image) v f)
      → file_blocks (by_place image) v f ≡ chain_back (by_place image) (found (length ids) ids spots) f n i
  unfolding file_blocks
  file_chain i n e m = rw (← e, ← m, counts)

-- the size of a file is that of its blocks by their bytes
pub size_bytes : (image : Bytes) (v : Volume ℕ) (f : ℕ)
    → text_size by_bytes (file_blocks by_bytes (over_volume (bytes_at image) v) f) ≡ text_size (by_place image) (file_blocks (by_place image) v f)
size_bytes image v f =
    ap (text_size by_bytes) (file_blocks_map (by_place image) by_bytes (bytes_at image) (place_views image) v f) ∙ go (file_blocks (by_place image) v f)
  where
    go : (o : Option (List ℕ)) → text_size by_bytes (over (map (bytes_at image)) o) ≡ text_size (by_place image) o
    go none = refl
    go (some bs) = ap (λ (t : Bytes). some (length t)) (text_of_map (by_place image) by_bytes (bytes_at image) (place_views image) bs)
