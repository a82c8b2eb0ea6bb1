-- Overwrite in the middle. Document 02, T-05: "The range then reads as the new data, every other byte as before."
use Rattle.std.specs.Prelude.{ℕ, suc, ◌+◌, ◌≤◌, ◌<◌, ◌≡◌, refl, ◌≢◌, ◌⊎◌, Bool, true, false, cond, not, ◌&&◌, ◌||◌, take, drop, eqb, ltb}
use Rattle.std.proofs.Math.Path.{sym, ap}
use Rattle.std.proofs.Common.{◌∙◌, inl, inr, length-take, eqb→eq, le→leb}
use Rattle.std.proofs.Math.Option.{Option, none, some}
use mathlib.Core.List.Memᴰ
use mathlib.Core.List.{List, [], ◌∷◌, map, Memᴰ}
use native.Mathlib.Omega.{arith}
use Rattle.std.proofs.Math.ListN.{length, length-drop}
use Rattle.std.proofs.Math.Dec.{T, leb, nltb→le, leb→le}
use Rattle.format.specs.Bytes.{Bytes, byte_at, le32}
use Rattle.format.specs.Ids.{root_id, is_directory_id, is_file_id, is_block_id}
use Rattle.format.specs.Record.{block, record_size, record_id, record_sequence, record_link, block_previous, data_length, longest_data}
use Rattle.format.specs.Record.{previous_rule, block_rule, block_rules, acceptable, declared_size}
use Rattle.format_laws.specs.Crc.{Octets}
use Rattle.format_laws.specs.Encoding.{MeantBlock, octets_none}
use Rattle.format_laws.specs.Octets.{octets_drop, octets_append}
use Rattle.format_laws.specs.Record.{only_block}
use Rattle.volume.specs.Lists.{all}
use Rattle.volume.specs.View.{by_bytes}
use Rattle.volume.specs.Counting.{Volume, volume_of, inode_of, block_of, block_ids}
use Rattle.volume.specs.Fate.{live, fate_of, live_ids, lineage, names_of}
use Rattle.volume.specs.Contents.{owns, file_blocks, text_of}
use Rattle.volume.specs.Path.{good_path, path_names}
use Rattle.volume.specs.Tree.{absent, lookup_names}
use Rattle.volume_laws.specs.Tests.{T→true, not_T→false, and_T}
use Rattle.volume_laws.specs.Lists.{keep_mem}
use Rattle.volume_laws.specs.Once.{Nodup, alike_length}
use Rattle.volume_laws.specs.Counting.{counting_mem}
use Rattle.volume_laws.proofs.Contents.{blocks_map, blocks_same}
use Rattle.volume_laws.specs.Chain.{FileBlocks}
use Rattle.volume_laws.proofs.Chain.{file_blocks_lem}
use Rattle.volume_laws.specs.Sound.{acceptable_block}
use Rattle.calls.specs.Refusal.{first_refusal}
use Rattle.calls.specs.Areas.{file_areas}
use Rattle.calls.specs.Mount.{accepted_records, volume, mount_number}
use Rattle.calls.specs.Storing.{Store, place_all, store_all, no_place, is_among}
use Rattle.calls.specs.Attempt.{Attempt, goes, refuses, leaves, attempt_at}
use Rattle.calls.specs.Append.{most_appended, is_broken}
use Rattle.calls.specs.Read.{Given, given, refused, give_blocks, give, read_given, read_answer}
use Rattle.calls.specs.Rewrite.{last_sequence}
use Rattle.calls.specs.Overwrite.{Change, changes, text_after, new_version, old_blocks, overwrite_plan, overwrite_to, overwriting, overwrite_of}
use Rattle.calls.specs.Overwrite.{overwrite_image, image_overwritten}
use Rattle.calls.specs.declared.Descriptor.{Descriptor}
use Rattle.calls.specs.declared.ReadAnswer.{ReadAnswer}
use Rattle.image_laws.specs.Laws.{length_put, byte_within, byte_outside}
use Rattle.calls_laws.specs.Checks.{Passes, passes, mounts}
use Rattle.calls_laws.specs.Records.{records_accepted, records_whole, volume_sound}
use Rattle.calls_laws.specs.Attempt.{never, found_never}
use Rattle.calls_laws.specs.Unused.{not_among}
use Rattle.demand2.specs.Octet.{octets_put, le32_fits, record_octets}
use Rattle.demand2.specs.Area.{Whole}
use Rattle.demand2.specs.Places.{Written}
use Rattle.demand2.proofs.Places.{areas_grown, place_found, all_placed, octets_written}
use Rattle.demand2.proofs.Places.{written_areas, written_headers, written_clean}
use Rattle.demand2.proofs.Added.{same_lookup}
use Rattle.demand2.specs.Lineage.{mem_dec}
use Rattle.demand2.proofs.Mounted.{agreed_inodes}
use Rattle.demand2.specs.Found.{passed_check, path_eight, root_there, found_lives, resolved, resolve_alike, read_given_lem, read_kept}
use Rattle.demand2.proofs.NewRecord.{block_made}
use Rattle.demand2.proofs.Append.{text_goes, not_broken}
use Rattle.demand2_overwrite.specs.Versions.{changed_id, Meant, AllRenewed}
use Rattle.demand2_overwrite.proofs.Versions.{all_renewed, inodes_kept}
use Rattle.demand2_overwrite.specs.Blocks.{held, Holder, BlocksAfter, ChangeOf}
use Rattle.demand2_overwrite.proofs.Blocks.{each_change, change_holds, changes_once, no_changes, blocks_after, versions_after}
use Rattle.demand2_overwrite.proofs.Blocks.{after_ids, after_lengths, after_headers, after_text}
use Rattle.demand2_overwrite.specs.Overwrite.{OverwriteGoes, AfterOverwrite}

module _ (image : Bytes) (ds : List Descriptor) (base path : Bytes) (offset : ℕ) (text : Bytes) where
  -- the volume before
  abbrev before : Volume Bytes
  before = volume image ds

  -- the checks of `overwrite_to`
  checked : (f : ℕ) → overwrite_to image ds f offset text ≡ 0
      → (is_directory_id f ≡ false) × ((old : List Bytes) × (file_blocks by_bytes before f ≡ some old))
      × (offset + length text ≤ length (text_of by_bytes (old_blocks image ds f)))
      × (is_among last_sequence (map (λ c. record_sequence c.block) (changes (old_blocks image ds f) offset text)) ≡ false)
      × ((l : List Store) × (overwrite_plan image ds f offset text ≡ some l))
  unfolding overwrite_to first_refusal
  checked f e =
      let bs = old_blocks image ds f in
      let a = passed_check (is_directory_id f) 10 _ e in
      let b = passed_check (is_broken (file_blocks by_bytes before f)) 12 _ a.1 in
      let c = passed_check (ltb (length (text_of by_bytes bs)) (offset + length text)) 13 _ b.1 in
      let d = passed_check (is_among last_sequence (map (λ c. record_sequence c.block) (changes bs offset text))) 15 _ c.1 in
      let g = passed_check (no_place (overwrite_plan image ds f offset text)) 14 0 d.1 in (
        a.0,
        not_broken (file_blocks by_bytes before f) b.0,
        nltb→le (length (text_of by_bytes bs)) (offset + length text) (rw c.0 tt),
        d.0,
        place_found (overwrite_plan image ds f offset text) g.0,
      )

  -- check 16
  none_last : (bs : List Bytes) → is_among last_sequence (map (λ c. record_sequence c.block) (changes bs offset text)) ≡ false
      → (c : Change) → Memᴰ c (changes bs offset text) → record_sequence c.block ≢ last_sequence
  none_last bs e c m z = not_among last_sequence (map (λ c. record_sequence c.block) (changes bs offset text)) (λ t. rw e at t)
      (Memᴰ.cast (sym z) (Memᴰ.map (λ (c : Change). record_sequence c.block) m))

  -- those of the path, and these
  pub overwrite_goes : overwrite_of image ds base path offset text ≡ 0 → OverwriteGoes image ds base path offset text
  unfolding overwrite_of overwriting overwrite_plan
  overwrite_goes e =
      let w = text_goes image ds base path text (λ f. overwrite_to image ds f offset text) e in
      let c = checked w.file w.checked in
      let old = c.1.0 in
      let is : old_blocks image ds w.file ≡ old = rw c.1.1 in
      record {
        mounted = w.mounted;
        good = w.good;
        file = w.file;
        found_there = w.found_there;
        no_directory = c.0;
        old = old;
        not_broken = c.1.1;
        within = rw is at c.2;
        not_last = rw is at (none_last (old_blocks image ds w.file) c.3);
        stores = c.4.0;
        placed = rw is at c.4.1;
        image_is = rw c.4.1;
        goes = w.goes_on;
      }

-- ---- a block may be rewritten

-- A block of a volume: it is accepted, its length field is the length of its data, and so it passes the rule of blocks with that length.
record BlockRuled (image : Bytes) (ds : List Descriptor) (b : Bytes) : Type 0 where
  accepted : Memᴰ b (accepted_records image ds)
  ruled : block_rule (record_id b) (record_link b) (block_previous b) (held b) ≡ true
  short : held b ≤ longest_data

block_ruled : (image : Bytes) (ds : List Descriptor) (b : Bytes) → Memᴰ b (volume image ds).blocks → BlockRuled image ds b
unfolding volume volume_of accepted_records block_rules block_rule
block_ruled image ds b m =
    let k = keep_mem by_bytes.is_block (accepted_records image ds) m in
    let w = records_whole image (file_areas image ds) b k.0 in
    let n = declared (acceptable block b) (only_block b (eqb→eq (le32 b 0) block.magic k.1)) w.0 w.1 in
    let r : T (block_rule (record_id b) (record_link b) (block_previous b) (held b))
    = rw n at (acceptable_block b (records_accepted image (file_areas image ds) b k.0) k.1) in
    let l = (and_T (is_block_id (record_id b) && is_file_id (record_link b) && previous_rule (record_id b) (block_previous b))
    (ltb 0 (held b) && leb (held b) longest_data) r).1 in
    record { accepted = k.0; ruled = T→true r; short = leb→le (held b) longest_data (and_T (ltb 0 (held b)) (leb (held b) longest_data) l).1 }
  where
    declared : (x : Bool) → record_size b ≡ cond x (declared_size block b) 0 → 0 < length b → record_size b ≡ length b → data_length b ≡ held b
    declared true e h q = omega (arith, length-drop 24 b)
    declared false e h q = absurd (omega arith)

-- the data of blocks of bytes are bytes
text_octets : (bs : List Bytes) → ((b : Bytes) → Memᴰ b bs → Octets b) → Octets (text_of by_bytes bs)
unfolding text_of
text_octets [] h = octets_none
text_octets (b ∷ bs) h = octets_append (by_bytes.text b) (text_of by_bytes bs) (octets_drop 24 b (h b (Memᴰ.head refl)))
    (text_octets bs (λ c m. h c (Memᴰ.tail m)))

-- the records that would be written, be there room or not: of an image and a text of bytes, of a whole file, and of a range within its size, no
-- block of which is at the last sequence
module _ (image : Bytes) (ds : List Descriptor) (f : ℕ) (old : List Bytes) (offset : ℕ) (text : Bytes) (octets_image : Octets image)
    (octets_text : Octets text) (whole : file_blocks by_bytes (volume image ds) f ≡ some old) (within : offset + length text ≤ length (text_of by_bytes old))
    (not_last : (c : Change) → Memᴰ c (changes old offset text) → record_sequence c.block ≢ last_sequence) where
  -- its blocks count, each once
  old_blocks_lem : FileBlocks by_bytes (volume image ds) f old
  old_blocks_lem = file_blocks_lem by_bytes (volume image ds) (λ r m e. omega (arith, ((volume_sound image ds).block_id r m).1)) f old whole

  -- and so they are the volume's
  there : (b : Bytes) → Memᴰ b old → Memᴰ b (volume image ds).blocks
  there b m = (counting_mem by_bytes (volume image ds).blocks (record_id b) b (old_blocks_lem.counts b m)).0

  -- and bytes, as is what the file will hold
  block_octets : (b : Bytes) → Memᴰ b old → Octets b
  block_octets b m = record_octets image ds octets_image b (block_ruled image ds b (there b m)).accepted

  after_octets : Octets (text_after old offset text)
  after_octets = octets_put (text_of by_bytes old) offset text (text_octets old block_octets) octets_text

  -- each change is of one of them
  each_of : (c : Change) → Memᴰ c (changes old offset text) → ChangeOf old c
  unfolding changes
  each_of = each_change offset (offset + length text) (text_after old offset text) after_octets 0 old
      (omega (arith, length_put (text_of by_bytes old) offset text within))

  -- what is meant can be written
  meant : (c : Change) → Memᴰ c (changes old offset text)
      → MeantBlock (changed_id c) (suc (record_sequence c.block)) (record_link c.block) (block_previous c.block) c.text
  meant c m =
      let k = each_of c m in
      let b = c.block in
      let r = block_ruled image ds b (there b k.block_there) in
      let o = block_octets b k.block_there in
      record {
        id_fits = le32_fits b o 4;
        sequence_fits = omega (arith, le32_fits b o 8, not_last c m);
        owner_fits = le32_fits b o 12;
        previous_fits = le32_fits b o 16;
        text_fits = omega (arith, k.same_length, r.short);
        rule = rw k.same_length r.ruled;
        octets = k.octets;
      }

  -- and is written
  each_made : (c : Change) → Memᴰ c (changes old offset text) → Meant c
  unfolding new_version
  each_made c m = block_made (changed_id c) (suc (record_sequence c.block)) (record_link c.block) (block_previous c.block) c.text (meant c m)

  -- and is a block's
  told : (new : List Bytes)
      × BlocksAfter offset (offset + length text) (text_after old offset text) 0 old new (map new_version (changes old offset text))
  unfolding changes
  told = versions_after offset (offset + length text) (text_after old offset text) 0 old (λ c m. (each_made c m, (each_of c m).same_length))

-- Refused calls included: of a whole file and of a range within its size, no block of which is at the last sequence, the records for which room is
-- sought are those of `BlocksAfter`. So 15 is given for want of room for just these.
pub versions_meant : (image : Bytes) (ds : List Descriptor) (f : ℕ) (old : List Bytes) (offset : ℕ) (text : Bytes) → Octets image → Octets text
    → file_blocks by_bytes (volume image ds) f ≡ some old → offset + length text ≤ length (text_of by_bytes old)
    → ((b : Bytes) → Holder offset (offset + length text) 0 old b → record_sequence b ≢ last_sequence)
    → (new : List Bytes) × BlocksAfter offset (offset + length text) (text_after old offset text) 0 old new (map new_version (changes old offset text))
unfolding changes
versions_meant image ds f old offset text oi ot whole within not_last = told image ds f old offset text oi ot whole within
    (λ c m. not_last c.block (change_holds offset (offset + length text) (text_after old offset text) 0 old c m))

module _ (image : Bytes) (ds : List Descriptor) (base path : Bytes) (offset : ℕ) (text : Bytes) (octets_image : Octets image)
    (octets_text : Octets text) (g : OverwriteGoes image ds base path offset text) where
  -- the checks of the mount, before
  p : Passes image ds
  p = passes image ds g.mounted

  -- the volume before
  abbrev v : Volume Bytes
  v = volume image ds

  -- the file, its blocks and its text
  abbrev f : ℕ
  f = g.file

  abbrev old : List Bytes
  old = g.old

  abbrev was : Bytes
  was = text_of by_bytes old

  -- what it will hold, and the changes
  abbrev after : Bytes
  after = text_after old offset text

  abbrev cs : List Change
  cs = changes old offset text

  -- the image and the volume afterwards
  abbrev image' : Bytes
  image' = image_overwritten image ds base path offset text

  abbrev w : Volume Bytes
  w = volume image' ds

  -- its blocks count, each once
  blocks : FileBlocks by_bytes v f old
  blocks = old_blocks_lem image ds f old offset text octets_image octets_text g.not_broken g.within g.not_last

  -- each change is of one of them, and its new version is as meant
  change_of : (c : Change) → Memᴰ c cs → ChangeOf old c
  change_of = each_of image ds f old offset text octets_image octets_text g.not_broken g.within g.not_last

  made : (c : Change) → Memᴰ c cs → Meant c
  made = each_made image ds f old offset text octets_image octets_text g.not_broken g.within g.not_last

  -- what holds of each new version
  each : (P : Bytes → Type 0) → ((c : Change) → Meant c → P (new_version c)) → (b : Bytes) → Memᴰ b (map new_version cs) → P b
  each P h b m = let r = Memᴰ.of_map new_version cs m in rw (← r.2) (h r.0 (made r.0 r.1))

  -- where they went
  all_went : Written ds image (map new_version cs) image'
  unfolding image_overwritten
  all_went = rw (image_overwritten, g.goes, g.image_is) (all_placed ds image (map new_version cs) g.stores p.described
      (each (Whole record_size) (λ c k. k.whole)) g.placed)

  -- of each block one new version
  once : Nodup (map changed_id cs)
  unfolding changes
  once = changes_once offset (offset + length text) after 0 old blocks.once

  -- what holds of any new versions
  renewed : AllRenewed image image' ds cs
  renewed = all_renewed ds cs image image' p once
      (λ c m. record { counts = blocks.counts c.block (change_of c m).block_there; is = made c m }) all_went

  -- the image still mounts
  still_mounts : mount_number image' ds ≡ 0
  still_mounts = mounts image' ds renewed.passes

  -- ---- which blocks count

  -- of an id either a new version, in the place of the block of the file, or what did
  data Now (i : ℕ) : Type 0 where
    new_version_lem : (c : Change) → Memᴰ c cs → block_of by_bytes v i ≡ some c.block → block_of by_bytes w i ≡ some (new_version c) → Now i
    as_it_was : block_of by_bytes w i ≡ block_of by_bytes v i → Now i

  now : (i : ℕ) → Now i
  now i = go (mem_dec i (map changed_id cs))
    where
      go : Dec (Memᴰ i (map changed_id cs)) → Now i
      go (yes m) =
          let r = Memᴰ.of_map changed_id cs m in
          new_version_lem r.0 r.1 (rw r.2 at (blocks.counts r.0.block (change_of r.0 r.1).block_there))
          (rw r.2 at (renewed.here r.0 r.1))
      go (no m) = as_it_was (renewed.others i m)

  -- each belongs to the file that it belonged to
  same_owns : (h i : ℕ) → owns by_bytes (block_of by_bytes w) h i ≡ owns by_bytes (block_of by_bytes v) h i
  unfolding owns
  same_owns h i = go (now i)
    where
      go : Now i → owns by_bytes (block_of by_bytes w) h i ≡ owns by_bytes (block_of by_bytes v) h i
      go (new_version_lem c m a b) = rw (owns, a, b, (made c m).owner_is)
      go (as_it_was e) = rw (owns, e)

  -- the record that counts afterwards in the place of b
  abbrev or_same : Bytes → Option Bytes → Bytes
  or_same b none = b
  or_same b (some c) = c

  abbrev turned : Bytes → Bytes
  turned b = or_same b (block_of by_bytes w (record_id b))

  -- it names the block that b named
  still_there : (i : ℕ) (r : Bytes) → block_of by_bytes v i ≡ some r → T (owns by_bytes (block_of by_bytes v) f i)
      → (block_of by_bytes w i ≡ some (turned r)) × (block_previous (turned r) ≡ block_previous r)
  still_there i r e t = go (now i)
    where
      own : record_id r ≡ i
      own = (counting_mem by_bytes v.blocks i r e).1

      go : Now i → (block_of by_bytes w i ≡ some (turned r)) × (block_previous (turned r) ≡ block_previous r)
      go (new_version_lem c m a b) =
          let z : c.block ≡ r = cc in
          let u : turned r ≡ new_version c = rw (own, b) in
          (b ∙ ap some (sym u), ap block_previous u ∙ (made c m).previous_is ∙ ap block_previous z)
      go (as_it_was q) = let u : turned r ≡ r = rw (own, q, e) in (q ∙ e ∙ ap some (sym u), ap block_previous u)

  -- the blocks of the file
  abbrev new : List Bytes
  new = map turned old

  -- they are a whole file
  new_whole : file_blocks by_bytes w f ≡ some new
  new_whole = blocks_map by_bytes v w f turned (same_owns f) still_there ∙ rw g.not_broken

  -- as told block by block
  new_blocks_lem : BlocksAfter offset (offset + length text) after 0 old new (map new_version cs)
  unfolding changes
  new_blocks_lem = blocks_after offset (offset + length text) after turned 0 old blocks.once
      (record {
        here = λ c m. rw (renewed.here c m);
        others = λ b m n. rw (renewed.others (record_id b) n, blocks.counts b m);
        meant = made;
        lengths = λ c m. (change_of c m).same_length;
      })

  -- and of any other file
  others_whole : (h : ℕ) → h ≢ f → file_blocks by_bytes w h ≡ file_blocks by_bytes v h
  unfolding owns
  others_whole h n = blocks_same by_bytes v w h (same_owns h) (λ i t. go i t (now i))
    where
      mine : (i : ℕ) (r : Bytes) → block_of by_bytes v i ≡ some r → T (owns by_bytes (block_of by_bytes v) h i) → h ≡ by_bytes.owner r
      mine i r q t = let u : T (eqb (by_bytes.owner r) h) = rw q at t in sym (eqb→eq (by_bytes.owner r) h u)

      go : (i : ℕ) → T (owns by_bytes (block_of by_bytes v) h i) → Now i → block_of by_bytes w i ≡ block_of by_bytes v i
      go i t (new_version_lem c m a b) = absurd (n (mine i c.block a t ∙ blocks.owner c.block (change_of c m).block_there))
      go i t (as_it_was e) = e

  -- the records that are written count
  counted : (b : Bytes) → Memᴰ b (map new_version cs) → block_of by_bytes w (record_id b) ≡ some b
  counted b m =
      let r = Memᴰ.of_map new_version cs m in
      rw (← r.2, (made r.0 r.1).id_is) (renewed.here r.0 r.1)

  -- and have the ids of the changes
  renewed_id : (i : ℕ) → Memᴰ i (map changed_id cs) → Memᴰ i (map record_id (map new_version cs))
  renewed_id i m =
      let r = Memᴰ.of_map changed_id cs m in
      Memᴰ.cast (sym r.2 ∙ sym (made r.0 r.1).id_is) (Memᴰ.map record_id (Memᴰ.map new_version r.1))

  -- ---- inodes

  -- only blocks were written
  same_inodes : w.inodes ≡ v.inodes
  same_inodes = inodes_kept image image' ds (map new_version cs) (each (λ b. by_bytes.is_block b ≡ true) (λ c k. k.is_block))
      (written_areas ds p.described all_went) (areas_grown ds p.described all_went)

  -- so that all that turns on inodes is as it was
  new_fates : (i : ℕ) → fate_of by_bytes w i ≡ fate_of by_bytes v i
  unfolding fate_of
  new_fates i = rw same_inodes

  same_live : live_ids by_bytes w ≡ live_ids by_bytes v
  unfolding live_ids fate_of
  same_live = rw (live_ids, same_inodes)

  new_lineages : (i : ℕ) → lineage by_bytes w i ≡ lineage by_bytes v i
  unfolding lineage
  new_lineages i = rw same_inodes

  new_names : (i : ℕ) → names_of by_bytes w i ≡ names_of by_bytes v i
  unfolding names_of
  new_names i = rw same_inodes

  -- ---- what is read

  -- the file lives
  root : (r : Bytes) × (inode_of by_bytes v root_id ≡ some r)
  root = root_there v p.root

  lives : fate_of by_bytes v f ≡ live
  lives = found_lives by_bytes v root.0 root.1 (path_names base path) f g.found_there

  -- what it holds, and that it is as long
  new_text : text_of by_bytes new ≡ after
  new_text = after_text old new (map new_version cs) offset text g.within new_blocks_lem

  long : length after ≡ length was
  long = length_put was offset text g.within

  -- a read of it, before and afterwards
  read_before : (position room : ℕ)
      → read_given image ds f position room ≡ cond (leb position (length was)) (give_blocks old position room) (refused 14)
  unfolding give
  read_before position room = read_given_lem image ds g.mounted f position room ∙ rw (give, lives, g.no_directory, g.not_broken)

  read_after : (position room : ℕ)
      → read_given image' ds f position room ≡ cond (leb position (length was)) (give_blocks new position room) (refused 14)
  unfolding give
  read_after position room =
      read_given_lem image' ds still_mounts f position room ∙ rw (give, new_fates f, lives, g.no_directory, new_whole, new_text, long)

  -- as many bytes and as many headers
  same_answer : (position room : ℕ) → read_answer (give_blocks new position room) ≡ read_answer (give_blocks old position room)
  unfolding give_blocks
  same_answer position room = rw (new_text, taken, after_headers new_blocks_lem position)
    where
      taken : length (take room (drop position after)) ≡ length (take room (drop position was))
      taken = simp (length-take, length-drop, long)

  -- a position within the size
  within_size : (position room : ℕ) → position ≤ length was
      → read_given image' ds f position room ≡ given (take room (drop position after)) (read_answer (read_given image ds f position room)).headers
  unfolding give_blocks
  within_size position room h =
      let t = T→true {b = leb position (length was)} (le→leb position (length was) h) in
      let old_read : read_given image ds f position room ≡ give_blocks old position room = read_before position room ∙ rw t in
      let same : (read_answer (give_blocks new position room)).headers ≡ (read_answer (read_given image ds f position room)).headers
      = ap (λ (a : ReadAnswer). a.headers) (same_answer position room) ∙ sym (ap (λ (a : Given). (read_answer a).headers) old_read) in
      read_after position room ∙ rw t (spelled ∙ ap (given (take room (drop position after))) same)
    where
      spelled : give_blocks new position room ≡ given (take room (drop position after)) (read_answer (give_blocks new position room)).headers
      spelled = rw (give_blocks, new_text)

  -- all of it
  after_overwrite : AfterOverwrite image image' ds base path offset text
  unfolding changes
  after_overwrite = record {
    mounts = still_mounts;
    file = f;
    found_at_path = resolved image ds base path g.mounted ∙ rw g.good g.found_there;
    old = old;
    whole_before = g.not_broken;
    within = g.within;
    new = new;
    whole_after = new_whole;
    written = map new_version cs;
    blocks_after = new_blocks_lem;
    block_ids_lem = after_ids new_blocks_lem;
    block_lengths = after_lengths new_blocks_lem;
    text_after_lem = new_text;
    size = ap length new_text ∙ long;
    in_range = λ j h. ap (λ (x : Bytes). byte_at x (offset + j)) new_text ∙ byte_within was offset text g.within j h;
    out_of_range = λ i h. ap (λ (x : Bytes). byte_at x i) new_text ∙ byte_outside was offset text g.within i (outside i h);
    reads_all = within_size;
    reads_none = λ position room h. read_after position room
        ∙ rw (not_T→false {b = leb position (length was)} (λ t. let l = leb→le position (length was) t in omega arith));
    answers = λ position room. ap read_answer (read_after position room) ∙ either (leb position (length was)) position room
        ∙ sym (ap read_answer (read_before position room));
    paths = λ b q. resolve_alike image image' ds b q g.mounted still_mounts
        (λ e. same_lookup by_bytes v w renewed.same_inodes (agreed_inodes image ds p) (path_names b q));
    reads = λ i n. read_kept image image' ds g.mounted still_mounts i (new_fates i) (others_whole i n);
    contents = others_whole;
    inodes = same_inodes;
    fates = new_fates;
    live_ones = same_live;
    lineages = new_lineages;
    names = new_names;
    counts = counted;
    other_blocks = λ i n. renewed.others i (λ m. n (renewed_id i m));
    same_ids = renewed.same_ids;
    ids = alike_length (block_ids by_bytes w) (block_ids by_bytes v) renewed.same_ids;
    none_written = λ e. ap (map new_version) (no_changes offset (offset + length text) after (omega (arith, ap length e)) 0 old);
    went = all_went;
    areas = areas_grown ds p.described all_went;
    same_areas = written_areas ds p.described all_went;
    headers = written_headers ds p.described all_went;
    clean_after = written_clean ds p.described all_went;
    octets = octets_written all_went (each Octets (λ c k. k.octets));
  }
    where
      outside : (i : ℕ) → (i < offset) ⊎ (offset + length text ≤ i) → (j : ℕ) → j < length text → i ≡ offset + j → ⊥
      outside i (inl h) j l e = omega arith
      outside i (inr h) j l e = omega arith

      either : (x : Bool) (position room : ℕ)
          → read_answer (cond x (give_blocks new position room) (refused 14)) ≡ read_answer (cond x (give_blocks old position room) (refused 14))
      either true position room = same_answer position room
      either false position room = refl

-- of any accepted overwrite; image and text are bytes
pub overwrite : (image : Bytes) (ds : List Descriptor) (base path : Bytes) (offset : ℕ) (text : Bytes) → Octets image → Octets text
    → overwrite_of image ds base path offset text ≡ 0
    → AfterOverwrite image (image_overwritten image ds base path offset text) ds base path offset text
overwrite image ds base path offset text oi ot e =
    after_overwrite image ds base path offset text oi ot (overwrite_goes image ds base path offset text e)

-- "0 bytes write nothing", accepted or refused
pub overwrite_nothing : (image : Bytes) (ds : List Descriptor) (base path : Bytes) (offset : ℕ)
    → image_overwritten image ds base path offset [] ≡ image
unfolding image_overwritten overwrite_plan changes place_all store_all
overwrite_nothing image ds base path offset = go (overwriting image ds base path offset [])
  where
    go : (a : Attempt ℕ) → leaves image (overwrite_image image ds offset []) a ≡ image
    go (goes f) =
        let bs = old_blocks image ds f in
        rw (overwrite_plan, changes, no_changes offset (offset + 0) (text_after bs offset []) (omega arith) 0 bs, place_all, store_all)
    go (refuses r) = refl

-- "For a write, 5 is tested again": an overwrite makes no new id, and never answers 5 when the image mounts
pub never_five : (image : Bytes) (ds : List Descriptor) (base path : Bytes) (offset : ℕ) (text : Bytes) → mount_number image ds ≡ 0
    → overwrite_of image ds base path offset text ≢ 5
unfolding overwrite_of overwriting overwrite_to attempt_at all
never_five image ds base path offset text m e =
    found_never 5 _ (cond bad (absent 8) (lookup_names by_bytes (volume image ds) (path_names base path))) (λ z. omega arith)
    (λ r q z. omega (arith, path_eight by_bytes (volume image ds) bad (path_names base path) r q))
    (λ i. never 5 _ (λ z. omega arith) tt) (rw (overwrite_of, overwriting, attempt_at, m) at e)
  where
    bad : Bool
    bad = not (good_path base path) || ltb most_appended (length text)
