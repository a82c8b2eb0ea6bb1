-- An inode rewritten: sequence plus one, another parent and name. A deletion is its case NONE and no name; document 02's rename is another.
use Rattle.std.specs.Prelude.{ℕ, suc, ◌<◌, ◌≡◌, ◌≢◌, eqb}
use Rattle.std.proofs.Common.{sym, ap, ◌∙◌, ⊎_elim, arith}
use Rattle.std.proofs.Math.Option.{some}
use mathlib.Core.List.Memᴰ
use mathlib.Core.List.{List, Memᴰ}
use Rattle.format.specs.Bytes.{Bytes}
use Rattle.format.specs.Ids.{first_block_id}
use Rattle.format.specs.Record.{record_id, record_sequence}
use Rattle.format_laws.specs.Crc.{Octets}
use Rattle.format_laws.specs.Encoding.{MeantInode}
use Rattle.volume.specs.View.{by_bytes}
use Rattle.volume.specs.Counting.{Volume, inode_of, inode_ids}
use Rattle.volume_laws.specs.Tests.{eqb_false}
use Rattle.volume_laws.specs.Once.{alike_length}
use Rattle.volume_laws.specs.Counting.{counting_mem, counting_top, ids_of_lem}
use Rattle.calls.specs.Mount.{accepted_records, volume}
use Rattle.calls.specs.Refusal.{first_refusal}
use Rattle.calls.specs.Storing.{Store, no_place}
use Rattle.calls.specs.Rewrite.{last_sequence, sequence_of, rewritten, rewrite_plan, rewrite_checks, image_rewritten}
use Rattle.calls.specs.declared.Descriptor.{Descriptor}
use Rattle.calls_laws.specs.Checks.{Passes, passes}
use Rattle.calls_laws.specs.Records.{volume_sound}
use Rattle.demand2.specs.Store.{OneStored}
use Rattle.demand2.proofs.Store.{one_stored, same_file_areas, same_clean}
use Rattle.demand2.proofs.Places.{place_found}
use Rattle.demand2.specs.Octet.{le32_fits, record_octets}
use Rattle.demand2.specs.Found.{passed_check}
use Rattle.demand2.specs.Added.{Same, Added, Changed}
use Rattle.demand2.proofs.Added.{same_count, same_contents}
use Rattle.demand2.specs.Newer.{Newer}
use Rattle.demand2.proofs.Newer.{newer_counts, same_ids}
use Rattle.demand2.proofs.Mounted.{agreed_inodes, agreed_blocks, inode_accepted, accepted_kind, few_ids, ids_few, inodes_added, blocks_same}
use Rattle.demand2.proofs.Mounted.{still_passes}
use Rattle.demand2.specs.NewRecord.{IsInode, WrittenOne}
use Rattle.demand2.proofs.NewRecord.{inode_made, one_placed, octets_one}
use Rattle.demand2.specs.Rewritten.{Rewrites, AfterRewrite}

-- the checks of a rewrite that was not refused
pub rewrite_checked : (image : Bytes) (ds : List Descriptor) (i parent : ℕ) (name : Bytes) → first_refusal (rewrite_checks image ds i parent name) ≡ 0
    → (sequence_of (inode_of by_bytes (volume image ds) i) ≢ last_sequence) × (l : List Store) × (rewrite_plan image ds i parent name ≡ some l)
unfolding first_refusal
rewrite_checked image ds i parent name e =
    let a = passed_check (eqb (sequence_of (inode_of by_bytes (volume image ds) i)) last_sequence) 15 _ e in
    let b = passed_check (no_place (rewrite_plan image ds i parent name)) 14 0 a.1 in
    let c = place_found (rewrite_plan image ds i parent name) b.0 in
    (eqb_false _ last_sequence a.0, c.0, c.1)

-- the id of an inode that counts is in the range of inodes
pub inode_low : (image : Bytes) (ds : List Descriptor) (i : ℕ) (r : Bytes) → inode_of by_bytes (volume image ds) i ≡ some r → i < first_block_id
inode_low image ds i r e = let m = counting_mem by_bytes (volume image ds).inodes i r e in rw m.1 at ((volume_sound image ds).inode_id r m.0)

module _ (image : Bytes) (ds : List Descriptor) (i parent : ℕ) (name : Bytes) (octets_image : Octets image)
    (g : Rewrites image ds i parent name) where
  -- the checks of the mount, before
  p : Passes image ds
  p = passes image ds g.mounted

  -- the volume before
  abbrev v : Volume Bytes
  v = volume image ds

  -- the new record
  abbrev b : Bytes
  b = rewritten v i parent name

  -- the image afterwards
  abbrev image' : Bytes
  image' = image_rewritten image ds i parent name

  -- the volume afterwards
  abbrev w : Volume Bytes
  w = volume image' ds

  -- the record that counted is one of the volume's
  was_there : Memᴰ g.record_before v.inodes
  was_there = (counting_mem by_bytes v.inodes i g.record_before g.counted).0

  -- the id is in that range
  id_low : i < first_block_id
  id_low = inode_low image ds i g.record_before g.counted

  -- a sequence is left
  sequence_low : sequence_of (inode_of by_bytes v i) < last_sequence
  sequence_low =
      let r = g.record_before in
      let h = le32_fits r (record_octets image ds octets_image r (inode_accepted image ds r was_there)) 8 in
      let n : record_sequence r ≢ last_sequence = rw g.counted at g.not_last in
      let l : record_sequence r < last_sequence = omega arith in
      rw g.counted l

  -- what was meant can be written
  meant : MeantInode i (suc (sequence_of (inode_of by_bytes v i))) parent name
  meant = record {
    id_fits = omega (arith, id_low);
    sequence_fits = omega (arith, sequence_low);
    parent_fits = g.parent_fits;
    name_fits = g.name_fits;
    rule = g.rule;
    good = g.good;
    octets = g.name_octets;
  }

  -- and is written
  made : IsInode b i (suc (sequence_of (inode_of by_bytes v i))) parent name
  unfolding rewritten
  made = inode_made i (suc (sequence_of (inode_of by_bytes v i))) parent name meant

  -- where it fits
  went_one : WrittenOne image image' ds b
  unfolding image_rewritten rewrite_plan
  went_one = rw (image_rewritten, g.placed) (one_placed image ds p.described b g.stores g.placed)

  -- and what becomes of the image
  stored_one : OneStored image image' ds went_one.area b
  stored_one = rw went_one.image_is (one_stored image ds p.described went_one.area b went_one.fits made.whole)

  -- it is newer than every record of its id
  newer : (r : Bytes) → Memᴰ r (accepted_records image ds) → record_id r ≡ record_id b → record_sequence r < record_sequence b
  newer r m e = ⊎_elim
      (λ k. let s : record_sequence b ≡ suc (record_sequence g.record_before) = rw g.counted at made.sequence_is in
      omega (arith, counting_top by_bytes v.inodes i g.record_before g.counted r k (e ∙ made.id_is), s))
      (λ k. absurd (omega (arith, ((volume_sound image ds).block_id r k).0, e, made.id_is, id_low))) (accepted_kind image ds r m)

  -- one inode record more
  one_more : Added by_bytes v.inodes w.inodes b
  one_more = inodes_added stored_one went_one.fits.file newer made.no_block

  -- the id was there
  id_known : Memᴰ (record_id b) (inode_ids by_bytes v)
  id_known = Memᴰ.cast made.id_is ((ids_of_lem by_bytes v.inodes).each i g.record_before g.counted)

  one_newer : Newer by_bytes v w b
  one_newer = record { agreed = agreed_inodes image ds p; added = one_more; known = id_known }

  -- and the block records as they were
  kept_blocks : Same v.blocks w.blocks
  kept_blocks = blocks_same stored_one went_one.fits.file newer made.no_block

  -- so that the image still mounts
  still : Passes image' ds
  still = still_passes stored_one went_one.fits.file newer p
      (few_ids w
      (omega (arith, alike_length (inode_ids by_bytes w) (inode_ids by_bytes v) (same_ids by_bytes v w b one_newer), (ids_few v p.few).0))
      (omega (arith, same_count by_bytes v.blocks w.blocks kept_blocks (agreed_blocks image ds p), (ids_few v p.few).1)))

  -- what counts
  changed : Changed by_bytes (inode_of by_bytes v) (inode_of by_bytes w) b
  changed = newer_counts by_bytes v w b one_newer

  -- all of it
  after_rewrite : AfterRewrite image image' ds i parent name
  after_rewrite = record {
    passes = still;
    is = made;
    went = went_one;
    stored = stored_one;
    newer = one_newer;
    here = ap (inode_of by_bytes w) (sym made.id_is) ∙ changed.here;
    others = λ j n. changed.others j (λ e. n (e ∙ made.id_is));
    same_blocks = kept_blocks;
    contents = same_contents by_bytes v w kept_blocks (agreed_blocks image ds p);
    same_areas = same_file_areas stored_one;
    clean_after = same_clean stored_one went_one.fits.clean;
    octets = octets_one went_one made.octets;
  }

-- the image with the inode rewritten is as told above
pub rewrite : (image : Bytes) (ds : List Descriptor) (i parent : ℕ) (name : Bytes) → Octets image → Rewrites image ds i parent name
    → AfterRewrite image (image_rewritten image ds i parent name) ds i parent name
rewrite = after_rewrite
