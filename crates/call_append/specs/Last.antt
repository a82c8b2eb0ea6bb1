-- The last block of a file that is not broken: the one that the first new block names.
use Rattle.std.specs.Prelude.{ℕ, ◌≡◌, refl, Bool, true, false, cond, List, map}
use Rattle.std.proofs.Common.{sym, arith}
use Rattle.std.proofs.Math.Option.{Option, none, some}
use Rattle.format.specs.Bytes.{Bytes}
use Rattle.volume.specs.View.{by_bytes}
use Rattle.volume.specs.Counting.{Volume}
use Rattle.volume.specs.Contents.{last_block, file_blocks}
use Rattle.volume_laws.specs.Map.{over, over_volume, file_blocks_map}
use Rattle.record_places.specs.Place.{by_place, bytes_at}
use Rattle.record_places.specs.Laws.{place_views}
use Rattle.calls.specs.Append.{is_broken}
use Rattle.file_blocks.specs.Blocks.{text_size}

abbrev pub last_unless_broken : Bytes → Volume ℕ → ℕ → Option ℕ
last_unless_broken image v f = cond (is_broken (file_blocks by_bytes (over_volume (bytes_at image) v) f)) none (last_block (by_place image) v f)

module _ (image : Bytes) (v : Volume ℕ) (f : ℕ) where
  told : file_blocks by_bytes (over_volume (bytes_at image) v) f ≡ over (map (bytes_at image)) (file_blocks (by_place image) v f)
  told = file_blocks_map (by_place image) by_bytes (bytes_at image) (place_views image) v f

  -- by the size of its contents
  pub size_none : none ≡ text_size (by_place image) (file_blocks (by_place image) v f) → none ≡ last_unless_broken image v f
  size_none e = rw (told, go (file_blocks (by_place image) v f) e)
    where
      go : (o : Option (List ℕ)) → none ≡ text_size (by_place image) o → is_broken (over (map (bytes_at image)) o) ≡ true
      go none e = refl
      go (some bs) e = let z : ◌≡◌ {A = ℕ} 0 1 = cc in absurd (omega arith)

  pub size_some : (n : ℕ) → some n ≡ text_size (by_place image) (file_blocks (by_place image) v f) → (o : Option ℕ) → o ≡ last_block (by_place image) v f
      → o ≡ last_unless_broken image v f
  size_some n e o q = rw (told, go (file_blocks (by_place image) v f) e) q
    where
      go : (o : Option (List ℕ)) → some n ≡ text_size (by_place image) o → is_broken (over (map (bytes_at image)) o) ≡ false
      go none e = let z : ◌≡◌ {A = ℕ} 0 1 = cc in absurd (omega arith)
      go (some bs) e = refl

  -- and back: it is broken, or it is not and has this last block
  last_none : last_block (by_place image) v f ≡ none → is_broken (file_blocks by_bytes (over_volume (bytes_at image) v) f) ≡ true
  unfolding file_blocks
  last_none e = let z : file_blocks (by_place image) v f ≡ none = rw e in rw (told, z)

  pub none_broken : none ≡ last_unless_broken image v f → is_broken (file_blocks by_bytes (over_volume (bytes_at image) v) f) ≡ true
  none_broken e = go (is_broken (file_blocks by_bytes (over_volume (bytes_at image) v) f)) refl e
    where
      go : (b : Bool) → is_broken (file_blocks by_bytes (over_volume (bytes_at image) v) f) ≡ b → none ≡ cond b none (last_block (by_place image) v f)
          → is_broken (file_blocks by_bytes (over_volume (bytes_at image) v) f) ≡ true
      go true q h = q
      go false q h = last_none (sym h)

  pub some_whole : (i : ℕ) → some i ≡ last_unless_broken image v f
      → (is_broken (file_blocks by_bytes (over_volume (bytes_at image) v) f) ≡ false) × (last_block (by_place image) v f ≡ some i)
  some_whole i e = go (is_broken (file_blocks by_bytes (over_volume (bytes_at image) v) f)) refl e
    where
      go : (b : Bool) → is_broken (file_blocks by_bytes (over_volume (bytes_at image) v) f) ≡ b → some i ≡ cond b none (last_block (by_place image) v f)
          → (is_broken (file_blocks by_bytes (over_volume (bytes_at image) v) f) ≡ false) × (last_block (by_place image) v f ≡ some i)
      go true q h = let z : ◌≡◌ {A = ℕ} 0 1 = cc in absurd (omega arith)
      go false q h = (q, sym h)
