-- New versions of blocks, stored one after the other: each counts for its id, and every other block that did.
use Rattle.std.specs.Prelude.{◌<◌, ◌≡◌, refl, Bool, true, false, not}
use Rattle.std.proofs.Common.{sym, ap, ◌∙◌, ⊎_elim, arith}
use mathlib.Core.List.Memᴰ
use mathlib.Core.List.{List, [], ◌∷◌, ◌++◌, map, append-nil, Memᴰ}
use Rattle.format.specs.Bytes.{Bytes}
use Rattle.format.specs.Record.{record_id, record_sequence}
use Rattle.format.specs.Reading.{Placed}
use Rattle.volume.specs.Lists.{keep}
use Rattle.volume.specs.View.{by_bytes}
use Rattle.volume.specs.Counting.{Volume, volume_of, block_of, block_ids}
use Rattle.volume_laws.specs.Lists.{keep_append, keep_none, map_append}
use Rattle.volume_laws.specs.Once.{Nodup, Alike, alike_length}
use Rattle.volume_laws.specs.Counting.{counting_mem, counting_top, ids_of_lem}
use Rattle.calls.specs.Image.{put}
use Rattle.calls.specs.Areas.{file_areas}
use Rattle.calls.specs.Mount.{bytes_of, records_of, records_in, accepted_records, volume}
use Rattle.calls.specs.Overwrite.{Change, new_version}
use Rattle.calls.specs.declared.Descriptor.{Descriptor}
use Rattle.calls_laws.specs.Checks.{Passes}
use Rattle.calls_laws.specs.Records.{volume_sound}
use Rattle.demand2.specs.Store.{free_place, RecordFits, OneStored}
use Rattle.demand2.proofs.Store.{one_stored, file_listed}
use Rattle.demand2.specs.Places.{Written, AreaGrown}
use Rattle.demand2.specs.Added.{Same, Added, Changed}
use Rattle.demand2.proofs.Added.{added_changed, known_ids, same_count}
use Rattle.demand2.proofs.Mounted.{agreed_inodes, agreed_blocks, accepted_kind, few_ids, ids_few, blocks_added, inodes_same, still_passes}
use Rattle.demand2.proofs.Pieces.{written_first, written_none}
use Rattle.demand2_overwrite.specs.Versions.{changed_id, Renews, AllRenewed}
use Rattle.demand2_overwrite.proofs.Renewed.{renewed_on}

-- one of them
module _ (image : Bytes) (ds : List Descriptor) (p : Passes image ds) (c : Change) (g : Renews (volume image ds) c) (area : Descriptor)
    (fits : RecordFits image ds area (new_version c)) where
  -- the new version
  abbrev b : Bytes
  b = new_version c

  -- the image afterwards
  abbrev image' : Bytes
  image' = put image (free_place image area) b

  -- the volumes before and afterwards
  abbrev v : Volume Bytes
  v = volume image ds

  abbrev w : Volume Bytes
  w = volume image' ds

  -- what becomes of the image
  stored : OneStored image image' ds area b
  stored = one_stored image ds p.described area b fits g.is.whole

  -- the block is one of the volume's
  was_there : Memᴰ c.block v.blocks
  was_there = (counting_mem by_bytes v.blocks (changed_id c) c.block g.counts).0

  -- its new version is newer than every record of its id
  newer : (r : Bytes) → Memᴰ r (accepted_records image ds) → record_id r ≡ record_id b → record_sequence r < record_sequence b
  newer r m e = ⊎_elim
      (λ k. absurd (omega (arith, (volume_sound image ds).inode_id r k, ((volume_sound image ds).block_id c.block was_there).0, e, g.is.id_is)))
      (λ k. omega (arith, counting_top by_bytes v.blocks (changed_id c) c.block g.counts r k (e ∙ g.is.id_is), g.is.sequence_is))
      (accepted_kind image ds r m)

  -- one block record more
  added : Added by_bytes v.blocks w.blocks b
  added = blocks_added stored fits.file newer g.is.is_block

  -- and the inode records as they were
  same_inodes : Same v.inodes w.inodes
  same_inodes = inodes_same stored fits.file newer g.is.is_block

  -- and no id is new
  same_ids : Alike (block_ids by_bytes w) (block_ids by_bytes v)
  same_ids = known_ids by_bytes v.blocks w.blocks b added (agreed_blocks image ds p)
      (Memᴰ.cast g.is.id_is ((ids_of_lem by_bytes v.blocks).each (changed_id c) c.block g.counts))

  -- so that the image still mounts
  still : Passes image' ds
  still = still_passes stored fits.file newer p (few_ids w
      (omega (arith, same_count by_bytes v.inodes w.inodes same_inodes (agreed_inodes image ds p), (ids_few v p.few).0))
      (omega (arith, alike_length (block_ids by_bytes w) (block_ids by_bytes v) same_ids, (ids_few v p.few).1)))

  -- what counts
  changed : Changed by_bytes (block_of by_bytes v) (block_of by_bytes w) b
  changed = added_changed by_bytes v.blocks w.blocks b added (agreed_blocks image ds p)

  -- all of it
  one_renewed : AllRenewed image image' ds (c ∷ [])
  one_renewed = record {
    passes = still;
    same_inodes = same_inodes;
    same_ids = same_ids;
    here = λ d m. let e = Memᴰ.eq_of_singleton m in rw (e, ← g.is.id_is) changed.here;
    others = λ j n. changed.others j (λ e. n (Memᴰ.head (e ∙ g.is.id_is)));
  }

-- all of them, of blocks of different ids
pub all_renewed : (ds : List Descriptor) (cs : List Change) (image image' : Bytes) → Passes image ds → Nodup (map changed_id cs)
    → ((c : Change) → Memᴰ c cs → Renews (volume image ds) c) → Written ds image (map new_version cs) image' → AllRenewed image image' ds cs
all_renewed ds [] image image' p apart g w = rw (written_none w) (record {
  passes = p;
  same_inodes = record { to = λ r k. k; back = λ r k. k };
  same_ids = record {
    nodup_l = (ids_of_lem by_bytes (volume image ds).blocks).nodup;
    nodup_m = (ids_of_lem by_bytes (volume image ds).blocks).nodup;
    to = λ x m. m;
    back = λ x m. m;
  };
  here = λ c m. absurd (Memᴰ.not-nil m);
  others = λ j n. refl;
})
all_renewed ds (c ∷ cs) image image' p apart g w =
    let o = written_first w in
    let one = one_renewed image ds p c (g c (Memᴰ.head refl)) o.area o.fits in
    renewed_on apart.0 one (all_renewed ds cs (put image (free_place image o.area) (new_version c)) image' one.passes apart.1
    (λ d m. let k = g d (Memᴰ.tail m) in
    let other = one.others (changed_id d) (λ n. apart.0 (Memᴰ.cast (sym (Memᴰ.eq_of_singleton n)) (Memᴰ.map changed_id m))) in
    record { counts = other ∙ k.counts; is = k.is })
    o.rest)

-- ---- inodes

-- where only blocks came to areas, the inode records are the same, in the same order
inodes_in_lem : (image image' : Bytes) (bs : List Bytes) → ((b : Bytes) → Memᴰ b bs → by_bytes.is_block b ≡ true)
    → (fs : List Descriptor) → ((d : Descriptor) → Memᴰ d fs → AreaGrown image image' d bs)
    → keep (λ r. not (by_bytes.is_block r)) (records_in image' fs) ≡ keep (λ r. not (by_bytes.is_block r)) (records_in image fs)
unfolding records_in
inodes_in_lem image image' bs are [] grown = refl
inodes_in_lem image image' bs are (d ∷ fs) grown =
    keep_append inode (bytes_of (records_of image' d)) (records_in image' fs)
    ∙ rw (here (grown d (Memᴰ.head refl)), inodes_in_lem image image' bs are fs (λ e m. grown e (Memᴰ.tail m)))
    (sym (keep_append inode (bytes_of (records_of image d)) (records_in image fs)))
  where
    inode : Bytes → Bool
    inode r = not (by_bytes.is_block r)

    here : AreaGrown image image' d bs → keep inode (bytes_of (records_of image' d)) ≡ keep inode (bytes_of (records_of image d))
    here g =
        ap (λ (l : List Placed). keep inode (bytes_of l)) g.reads
        ∙ ap (keep inode) (map_append (λ (p : Placed). p.bytes) (records_of image d) g.more)
        ∙ keep_append inode (bytes_of (records_of image d)) (bytes_of g.more)
        ∙ ap (λ (l : List Bytes). keep inode (bytes_of (records_of image d)) ++ l) (keep_none inode (bytes_of g.more) (λ b m. block b m))
        ∙ append-nil (keep inode (bytes_of (records_of image d)))
      where
        block : (b : Bytes) → Memᴰ b (bytes_of g.more) → inode b ≡ false
        block b m =
            let r = Memᴰ.of_map (λ (p : Placed). p.bytes) g.more m in
            ap not (are b (Memᴰ.cast (sym r.2) (g.new r.0 r.1)))

-- and so of an image
pub inodes_kept : (image image' : Bytes) (ds : List Descriptor) (bs : List Bytes) → ((b : Bytes) → Memᴰ b bs → by_bytes.is_block b ≡ true)
    → file_areas image' ds ≡ file_areas image ds → ((d : Descriptor) → Memᴰ d ds → AreaGrown image image' d bs)
    → (volume image' ds).inodes ≡ (volume image ds).inodes
unfolding volume volume_of accepted_records
inodes_kept image image' ds bs are same grown = rw same
    (inodes_in_lem image image' bs are (file_areas image ds) (λ d m. grown d (file_listed image ds d m)))
