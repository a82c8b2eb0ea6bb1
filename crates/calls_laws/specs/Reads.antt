-- Where a read ends: far below the greatest 32-bit number, so that a position can be moved on by what was given.
use Prim.Native.Nat.{ℕ, zero, suc, ◌+◌, ◌*◌, ◌≤◌}
use Rattle.std.specs.Prelude.{◌≡◌, Bool, cond, drop, eqb, leb, ltb}
use Rattle.std.proofs.Math.Path.{refl}
use Rattle.std.proofs.Common.{◌∙◌, length-take}
use Rattle.std.proofs.Math.Bool.{true, false}
use mathlib.Core.List.{List, [], ◌∷◌, ◌++◌}
use Rattle.std.proofs.Math.Option.{Option, none, some}
use Rattle.std.proofs.Math.Nat.{suc-mul}
use native.Mathlib.Omega.{arith}
use Rattle.std.proofs.Math.ListN.{length, length-append, length-drop}
use borrow.Author.Tests.{eqb-true, leb-true, ltb-false}
use Rattle.format.specs.Bytes.{Bytes}
use Rattle.format.specs.Ids.{NONE, is_directory_id}
use Rattle.volume.specs.Lists.{bind}
use Rattle.volume.specs.View.{by_bytes}
use Rattle.volume.specs.Counting.{volume_of, inode_ids, block_of, block_ids}
use Rattle.volume.specs.Fate.{is_live, fate_of}
use Rattle.volume.specs.Contents.{snoc, owns, owned, last_block, chain_back, file_blocks, text_of}
use Rattle.volume_laws.specs.Tests.{or_is_false}
use Rattle.volume_laws.specs.Lists.{keep_mem, keep_shorter}
use Rattle.volume_laws.specs.Counting.{counting_mem}
use Rattle.calls.specs.Areas.{largest_image, file_areas}
use Rattle.calls.specs.Mount.{most_inodes, most_blocks, too_many_ids, volume, accepted_records, mount_number, bad_description}
use Rattle.calls.specs.Read.{Given, given, refused, give_blocks, give_file, give, read_given}
use Rattle.calls.specs.declared.Descriptor.{Descriptor}
use Rattle.calls_laws.specs.Checks.{passes}
use Rattle.calls_laws.specs.Records.{records_short}

-- ---- the text of a chain of k blocks, each of at most m bytes

module _ (c : ℕ → Option Bytes) (m : ℕ) (short : (i : ℕ) (r : Bytes) → c i ≡ some r → length (by_bytes.text r) ≤ m) (f : ℕ) where
  -- what an option holds is no longer than n
  abbrev Within : ℕ → Option (List Bytes) → Type 0
  Within n none = Unit {0}
  Within n (some bs) = length (text_of by_bytes bs) ≤ n

  text_snoc : (bs : List Bytes) (b : Bytes) → length (text_of by_bytes (bs ++ (b ∷ []))) ≡ length (text_of by_bytes bs) + length (by_bytes.text b)
  unfolding text_of
  text_snoc [] b = length-append (by_bytes.text b) [] ∙ omega arith
  text_snoc (a ∷ bs) b =
      omega (arith, length-append (by_bytes.text a) (text_of by_bytes (bs ++ (b ∷ []))), length-append (by_bytes.text a) (text_of by_bytes bs), text_snoc bs b)

  snoc_within : (n : ℕ) (o : Option (List Bytes)) (b : Bytes) → Within n o → length (by_bytes.text b) ≤ m → Within (n + m) (snoc o b)
  snoc_within n none b w h = tt
  snoc_within n (some bs) b w h = omega (arith, text_snoc bs b)

  chain_within_lem : (k i : ℕ) → Within (k * m) (chain_back by_bytes c f k i)
  unfolding chain_back text_of
  chain_within_lem zero i = go (eqb i NONE)
    where
      go : (b : Bool) → Within (zero * m) (cond b (some []) none)
      go true = omega arith
      go false = tt
  chain_within_lem (suc k) i = go (λ j. chain_within_lem k j) (owns by_bytes c f i) (c i) refl
    where
      more : suc k * m ≡ k * m + m
      more = omega (arith, suc-mul k m)

      go : ((j : ℕ) → Within (k * m) (chain_back by_bytes c f k j)) → (b : Bool) (o : Option Bytes) → c i ≡ o
          → Within (suc k * m) (cond b (bind o (λ r. snoc (chain_back by_bytes c f k (by_bytes.previous r)) r)) none)
      go ih false o e = tt
      go ih true none e = tt
      go ih true (some r) e = rw more (snoc_within (k * m) (chain_back by_bytes c f k (by_bytes.previous r)) r (ih (by_bytes.previous r)) (short i r e))

-- ---- what a mounted volume's files hold

-- the most blocks, of an image's length each
abbrev pub longest_text : ℕ
longest_text = most_blocks * largest_image

module _ (image : Bytes) (ds : List Descriptor) (z : mount_number image ds ≡ 0) where
  small : length image ≤ largest_image
  unfolding bad_description
  small = ltb-false largest_image (length image) (or_is_false _ _ (passes image ds z).described).0

  block_short : (i : ℕ) (r : Bytes) → block_of by_bytes (volume image ds) i ≡ some r → length (by_bytes.text r) ≤ largest_image
  unfolding volume accepted_records volume_of
  block_short i r e =
      let m = (keep_mem _ (accepted_records image ds) (counting_mem by_bytes (volume image ds).blocks i r e).0).0 in
      omega (arith, small, records_short image (file_areas image ds) r m, length-drop 24 r)

  few : (f : ℕ) → length (owned by_bytes (volume image ds) f) ≤ most_blocks
  unfolding owned too_many_ids
  few f =
      let t = ltb-false most_blocks (length (block_ids by_bytes (volume image ds))) (or_is_false (ltb most_inodes (length (inode_ids by_bytes (volume image ds)))) _ (passes image ds z).few).1 in
      omega (arith, keep_shorter (owns by_bytes (block_of by_bytes (volume image ds)) f) (block_ids by_bytes (volume image ds)))

  file_within : (f : ℕ) (bs : List Bytes) → file_blocks by_bytes (volume image ds) f ≡ some bs → length (text_of by_bytes bs) ≤ longest_text
  unfolding file_blocks
  file_within f bs = go (last_block by_bytes (volume image ds) f)
    where
      on : (o : Option (List Bytes)) → Within (block_of by_bytes (volume image ds)) largest_image block_short f (length (owned by_bytes (volume image ds) f) * largest_image) o
          → o ≡ some bs → length (text_of by_bytes bs) ≤ longest_text
      on o w e =
          let h : length (text_of by_bytes bs) ≤ length (owned by_bytes (volume image ds) f) * largest_image = rw e at w in
          omega (arith, few f)

      go : (o : Option ℕ) → bind o (chain_back by_bytes (block_of by_bytes (volume image ds)) f (length (owned by_bytes (volume image ds) f))) ≡ some bs
          → length (text_of by_bytes bs) ≤ longest_text
      go none e = let z : ◌≡◌ {A = ℕ} 0 1 = cc in absurd (omega arith)
      go (some i) e = on _ (chain_within_lem (block_of by_bytes (volume image ds)) largest_image block_short f (length (owned by_bytes (volume image ds) f)) i) e

-- where a read that is not refused ends
abbrev pub EndsSoon : ℕ → Given → Type 0
EndsSoon position (given bytes headers) = position + length bytes ≤ longest_text
EndsSoon position (refused n) = Unit {0}

pub read_ends : (image : Bytes) (ds : List Descriptor) (id position room : ℕ) → EndsSoon position (read_given image ds id position room)
unfolding read_given give give_blocks
read_ends image ds id position room = mounted (eqb (mount_number image ds) 0) refl
  where
    inside : (bs : List Bytes) → file_blocks by_bytes (volume image ds) id ≡ some bs → mount_number image ds ≡ 0 → (b : Bool) → leb position (length (text_of by_bytes bs)) ≡ b
        → EndsSoon position (cond b (give_blocks bs position room) (refused 14))
    inside bs e z false l = tt
    inside bs e z true l =
        let text = text_of by_bytes bs in
        omega (arith, leb-true position (length text) l, file_within image ds z id bs e, length-take room (drop position text), length-drop position text)

    whole : mount_number image ds ≡ 0 → (o : Option (List Bytes)) → file_blocks by_bytes (volume image ds) id ≡ o → EndsSoon position (give_file o position room)
    whole z none e = tt
    whole z (some bs) e = inside bs e z (leb position (length (text_of by_bytes bs))) refl

    live : mount_number image ds ≡ 0 → (b d : Bool)
        → EndsSoon position (cond b (cond d (refused 11) (give_file (file_blocks by_bytes (volume image ds) id) position room)) (refused 9))
    live z false d = tt
    live z true true = tt
    live z true false = whole z (file_blocks by_bytes (volume image ds) id) refl

    mounted : (b : Bool) → eqb (mount_number image ds) 0 ≡ b → EndsSoon position (cond b (give (volume image ds) id position room) (refused (mount_number image ds)))
    mounted false e = tt
    mounted true e = live (eqb-true (mount_number image ds) 0 e) (is_live (fate_of by_bytes (volume image ds) id)) (is_directory_id id)
