-- Checks 5 to 7 by the tables are those by the records, and the tables filled are those of a mounted volume.
use Rattle.std.specs.Prelude.{Option as Answer, Result, Ok, Err, IfOk, ℕ, ◌+◌, ◌-◌, ◌/◌, ◌≤◌, ◌<◌, ◌≡◌, refl, Bool, true, false, cond, List, [], ◌∷◌, length, take, drop, replicate}
use Rattle.std.proofs.Common.{sym, ap, ◌∙◌, arith, length-take, length-drop, get_or-take, get_or-drop}
use Rattle.std.proofs.Math.Bool.{not}
use Rattle.std.proofs.Math.Option.{Option, none, some}
use Rattle.std.proofs.lemmas.List.{length-replicate}
use Rattle.format.specs.Bytes.{Bytes}
use Rattle.format.specs.Ids.{root_id}
use Rattle.volume.specs.Lists.{has}
use Rattle.volume.specs.View.{by_bytes}
use Rattle.volume.specs.Counting.{Volume, volume_of, all_agree, inode_of}
use Rattle.volume_laws.specs.Map.{over, over_volume, volume_of_map, all_agree_map, inode_of_map, inode_ids_map, block_ids_map}
use Rattle.record_places.specs.Place.{bytes_at, by_place, AllLie}
use Rattle.record_places.specs.Laws.{place_views}
use Rattle.table_words.specs.Occupancy.{capacity}
use Rattle.table_index.specs.Index.{slots}
use Rattle.table_index.specs.Laws.{zeros, no_items}
use Rattle.table_words.specs.Laws.{total_within, fresh_total}
use Rattle.table_rows.specs.Answer.{meant}
use Rattle.table_rows.specs.Table.{taken, found, Rows, Good}
use Rattle.table_rows.specs.Laws.{fresh_good, ids_room, spots_room}
use Rattle.table_rows.specs.Parts.{part, part_long, part_part, part_first, lent}
use Rattle.table_index.specs.Rows.{no_rows}
use Rattle.table_rows.specs.Rows.{IndexedPart, Usable, RowsOf, InodeTable, BlockTable, rows_exact, usable_exact, inode_table, block_table}
use Rattle.table_fill.specs.Gather.{Tables, SameKind, overfull, Gathered}
use Rattle.table_fill.specs.Gather.{Ready as GatherReady}
use Rattle.table_fill.specs.Parts.{tables_in, Room, all_rows, inode_rows, block_rows, inode_part, block_part, inode_index_size, id_index_size, Indexed}
use Rattle.table_fill.specs.Twins.{place_slot, NoTwins}
use Rattle.calls.specs.Attempt.{number_of}
use Rattle.calls.specs.Outcome.{code, code_nonzero, outcome_of}
use Rattle.calls.specs.declared.Refusal.{Refusal}
use Rattle.calls.specs.declared.Refusal.TheVariants.{NoRoot}
use Rattle.calls.specs.Refusal.{Check, ◌refused_by◌, first_refusal}
use Rattle.calls.specs.Mount.{most_inodes, most_blocks, most_records, records_in, too_many_ids, no_root}
use Rattle.calls.specs.declared.Descriptor.{Descriptor}
use Rattle.area_pass.specs.Listing.{places_in}
use Rattle.area_pass.specs.Bridge.{places_bytes}
use Rattle.mount.specs.declared.Filled.{Filled}

-- checks 5 to 7, of the file areas fs
unfoldable pub checks_in : Bytes → List Descriptor → List Check
checks_in image fs =
    (too_many_ids (volume_of by_bytes (records_in image fs)) refused_by 5)
    ∷ (not (all_agree by_bytes (records_in image fs)) refused_by 6)
    ∷ (no_root (volume_of by_bytes (records_in image fs)) refused_by 7)
    ∷ []

-- the words that say which rows are taken, 64 in each
abbrev pub inode_words : ℕ
inode_words = most_inodes / 64

abbrev pub block_words : ℕ
block_words = most_blocks / 64

-- the tables with no row taken
abbrev pub fresh : List ℕ → Tables
fresh rows = tables_in (replicate inode_words 0) (replicate block_words 0) rows

-- the first n places are of whole records, and there is room for the rows
pub record Ready (image : Bytes) (places : List ℕ) (n : ℕ) (rows : List ℕ) : Type 0 where
  pub count : n ≤ length places
  pub few : n ≤ most_records
  pub lie : AllLie image places n
  pub kinds : SameKind (by_place image) (take n places)
  pub long : length rows ≡ all_rows

-- the tables of the records ps
pub record Rowed (image : Bytes) (ps : List ℕ) (r : Filled) (rows : List ℕ) : Type 0 where
  pub inodes_few : r.inodes ≤ most_inodes
  pub blocks_few : r.blocks ≤ most_blocks
  pub inodes : InodeTable image (part 0 r.inodes rows) (part most_inodes r.inodes rows)
  pub blocks : BlockTable image (part inode_rows r.blocks rows) (part (inode_rows + most_blocks) r.blocks rows)
  pub inode_rows_lem : RowsOf (by_place image) (volume_of (by_place image) ps).inodes (part 0 r.inodes rows) (part most_inodes r.inodes rows)
  pub block_rows_lem : RowsOf (by_place image) (volume_of (by_place image) ps).blocks (part inode_rows r.blocks rows) (part (inode_rows + most_blocks) r.blocks rows)

-- the answer of checks 5 to 7 for the file areas whose records the places are
pub record Fills (image : Bytes) (places : List ℕ) (n : ℕ) (r : Result Filled Refusal) (rows : List ℕ) : Type 0 where
  pub number : (fs : List Descriptor) → take n places ≡ places_in image fs → number_of (outcome_of r) ≡ first_refusal (checks_in image fs)
  pub rowed : IfOk r (λ f. Rowed image (take n places) f rows)

module _ (image : Bytes) (fs : List Descriptor) where
  abbrev v : Volume ℕ
  v = volume_of (by_place image) (places_in image fs)

  -- the volume of the records is that of the places, by their bytes
  pub volume_is : volume_of by_bytes (records_in image fs) ≡ over_volume (bytes_at image) (volume_of (by_place image) (places_in image fs))
  volume_is = ap (volume_of by_bytes) (sym (places_bytes image fs)) ∙ volume_of_map (by_place image) by_bytes (bytes_at image) (place_views image) (places_in image fs)

  -- 5
  ids_too_many : (rows : List ℕ) → too_many_ids (volume_of by_bytes (records_in image fs)) ≡ overfull (fresh rows) (by_place image) v
  unfolding too_many_ids
  ids_too_many rows =
      rw (
        volume_is,
        inode_ids_map (by_place image) by_bytes (bytes_at image) (place_views image) v,
        block_ids_map (by_place image) by_bytes (bytes_at image) (place_views image) v,
      )

  -- 6
  all_agree_lem : all_agree by_bytes (records_in image fs) ≡ all_agree (by_place image) (places_in image fs)
  all_agree_lem = ap (all_agree by_bytes) (sym (places_bytes image fs)) ∙ all_agree_map (by_place image) by_bytes (bytes_at image) (place_views image) (places_in image fs)

  -- 7
  any_over : (o : Option ℕ) → has (λ (b : Bytes). true) (over (bytes_at image) o) ≡ has (λ (p : ℕ). true) o
  any_over none = refl
  any_over (some p) = refl

  root_missing : no_root (volume_of by_bytes (records_in image fs)) ≡ not (has (λ (p : ℕ). true) (inode_of (by_place image) v root_id))
  unfolding no_root
  root_missing =
      rw (volume_is, inode_of_map (by_place image) by_bytes (bytes_at image) (place_views image) v root_id) (ap not (any_over (inode_of (by_place image) v root_id)))

  numbers : (rows : List ℕ)
      → first_refusal (checks_in image fs)
      ≡ cond (overfull (fresh rows) (by_place image) v) 5
      (cond (not (all_agree (by_place image) (places_in image fs))) 6
      (cond (not (has (λ (p : ℕ). true) (inode_of (by_place image) v root_id))) 7 0))
  unfolding checks_in first_refusal
  numbers rows = rw (ids_too_many rows, all_agree_lem, root_missing)

  two_numbers : (a b : Bool) (n m : ℕ) → n ≡ cond a 5 (cond b 0 6) → (n ≡ 0 → ⊥) → n ≡ cond a 5 (cond (not b) 6 m)
  two_numbers true b n m e h = e
  two_numbers false true n m e h = absurd (h e)
  two_numbers false false n m e h = e

  passes : (a b : Bool) (n m : ℕ) → n ≡ cond a 5 (cond b 0 6) → n ≡ 0 → m ≡ cond a 5 (cond (not b) 6 m)
  passes true b n m e h = absurd (omega arith)
  passes false true n m e h = refl
  passes false false n m e h = absurd (omega arith)

  -- the answer of `gather`, and of the search for the root
  module _ (rows : List ℕ) (n : ℕ) (g : n ≡ cond (overfull (fresh rows) (by_place image) v) 5 (cond (all_agree (by_place image) (places_in image fs)) 0 6)) where
    pub refused_records : (n ≡ 0 → ⊥) → n ≡ first_refusal (checks_in image fs)
    refused_records h = two_numbers (overfull (fresh rows) (by_place image) v) (all_agree (by_place image) (places_in image fs)) n _ g h ∙ sym (numbers rows)

    root_decides : n ≡ 0 → (o : Option ℕ) → inode_of (by_place image) v root_id ≡ o
        → first_refusal (checks_in image fs) ≡ cond (not (has (λ (p : ℕ). true) o)) 7 0
    root_decides h o r =
        numbers rows
        ∙ sym (passes (overfull (fresh rows) (by_place image) v) (all_agree (by_place image) (places_in image fs)) n _ g h)
        ∙ rw r

    pub no_root_lem : n ≡ 0 → inode_of (by_place image) v root_id ≡ none → 7 ≡ first_refusal (checks_in image fs)
    no_root_lem h r = sym (root_decides h none r)

    pub root_found : n ≡ 0 → (p : ℕ) → inode_of (by_place image) v root_id ≡ some p → 0 ≡ first_refusal (checks_in image fs)
    root_found h p r = sym (root_decides h (some p) r)

-- ---- tables with no row taken may be filled

module _ (image : Bytes) (places : List ℕ) (n : ℕ) (rows : List ℕ) (ready : Ready image places n rows) where
  inode_long : length (inode_part rows) ≡ inode_rows
  inode_long = part_long 0 inode_rows rows (omega (arith, ready.long))

  block_long : length (block_part rows) ≡ block_rows
  block_long = part_long inode_rows block_rows rows (omega (arith, ready.long))

  pub fresh_room : Room (replicate inode_words 0) (replicate block_words 0) rows
  fresh_room = record { inodes = refl; blocks = refl; both = ready.long }

  pub fresh_ready : GatherReady image places n (fresh rows)
  fresh_ready = record {
    count = ready.count;
    lie = ready.lie;
    kinds = ready.kinds;
    good = record {
      inodes = fresh_good inode_words (take most_inodes (inode_part rows)) (drop most_inodes (inode_part rows)) image (omega arith)
          (omega (arith, inode_long, length-take most_inodes (inode_part rows))) (omega (arith, inode_long, length-drop most_inodes (inode_part rows)));
      blocks = fresh_good block_words (take most_blocks (block_part rows)) (drop most_blocks (block_part rows)) image (omega arith)
          (omega (arith, block_long, length-take most_blocks (block_part rows))) (omega (arith, block_long, length-drop most_blocks (block_part rows)));
    };
    no_inode = fresh_total inode_words;
    no_block = fresh_total block_words;
  }

  -- the index of the rows, and that of the records, in arrays of zeros
  fresh_part : (a most w : ℕ) (l : List ℕ) → a + (slots + most) ≤ id_index_size → most < 65536
      → IndexedPart most (replicate w 0) (part a (slots + most) (replicate id_index_size 0)) l
  fresh_part a most w l h small =
      let long : length (part a (slots + most) (replicate id_index_size 0)) ≡ slots + most =
      part_long a (slots + most) (replicate id_index_size 0) (omega (arith, length-replicate {A = ℕ} id_index_size 0)) in
      record {
        long = long;
        small = small;
        rows = no_rows (part a (slots + most) (replicate id_index_size 0)) l (taken (replicate w 0)) (fresh_total w) (omega (arith, long)) (λ s b.
            get_or-take (slots + most) (drop a (replicate id_index_size 0)) s 0 (omega arith) ∙ get_or-drop a (replicate id_index_size 0) s 0 ∙ zeros id_index_size (a + s));
      }

  pub fresh_indexed : Indexed (replicate inode_words 0) (replicate block_words 0) (replicate id_index_size 0) rows
  fresh_indexed = record {
    long = length-replicate {A = ℕ} id_index_size 0;
    inodes = fresh_part 0 most_inodes inode_words (inode_part rows) (omega arith) (omega arith);
    blocks = fresh_part inode_index_size most_blocks block_words (block_part rows) (omega arith) (omega arith);
  }

  pub fresh_twins : NoTwins image places (replicate (slots + most_records) 0) n
  fresh_twins = record {
    room = omega (arith, ready.few, length-replicate {A = ℕ} (slots + most_records) 0);
    small = omega (arith, ready.few);
    empty = no_items (place_slot image places) (replicate (slots + most_records) 0) (λ s h. zeros (slots + most_records) s);
  }

-- ---- the taken rows by themselves

-- a table of `most` rows that starts at a
module _ (a most n : ℕ) (rows : List ℕ) (few : n ≤ most) (in_rows : a + (most + most) ≤ length rows) where
  ids_half : take n (take most (part a (most + most) rows)) ≡ part a n rows
  ids_half = ap (take n) (part_first a most (most + most) rows (omega arith)) ∙ part_first a n most rows few

  spots_half : take n (drop most (part a (most + most) rows)) ≡ part (a + most) n rows
  spots_half = part_part a (most + most) most n rows (omega arith) in_rows

record Table (image : Bytes) (ps ids spots : List ℕ) : Type 0 where
  usable : Usable image ids spots
  rows : RowsOf (by_place image) ps ids spots

retabled : {image : Bytes} {ps : List ℕ} (ids ids' spots spots' : List ℕ) → ids ≡ ids' → spots ≡ spots' → Table image ps ids spots → Table image ps ids' spots'
retabled ids ids' spots spots' e f t = rw (sym e, sym f) t

exact : (image : Bytes) (ps words : List ℕ) (a most : ℕ) (rows : List ℕ) → a + (most + most) ≤ length rows → capacity words ≡ most
    → Good image words (take most (part a (most + most) rows)) (drop most (part a (most + most) rows))
    → Rows (by_place image) ps (taken words) (take most (part a (most + most) rows)) (drop most (part a (most + most) rows))
    → Table image ps (part a (taken words) rows) (part (a + most) (taken words) rows)
exact image ps words a most rows h room good rw_s =
    let few : taken words ≤ most = omega (arith, total_within words, room) in
    retabled _ _ _ _ (ids_half a most (taken words) rows few h) (spots_half a most (taken words) rows few h) (record {
      usable = usable_exact (by_place image) ps (taken words) _ _ (ids_room good.sized) image (spots_room good.sized) good.lie;
      rows = rows_exact (by_place image) ps (taken words) _ _ (ids_room good.sized) rw_s;
    })

-- the tables that `gather` left
module _ (image : Bytes) (places : List ℕ) (n : ℕ) (rows : List ℕ) (number : ℕ) (iw bw rows' : List ℕ)
    (g : Gathered image (take n places) (fresh rows) number (tables_in iw bw rows')) (room : Room iw bw rows') where
  pub fill_refused : (r : Refusal) → number ≡ code r → Fills image places n (Err r) rows'
  fill_refused r q = record {
    number = λ fs e. sym q ∙ refused_records image fs rows number (rw e at g.number) (λ z. code_nonzero r (sym q ∙ z));
    rowed = tt;
  }

  module _ (z : number ≡ 0) where
    inodes : Table image (volume_of (by_place image) (take n places)).inodes (part 0 (taken iw) rows') (part most_inodes (taken iw) rows')
    inodes = exact image _ iw 0 most_inodes rows' (omega (arith, room.both)) room.inodes g.good.inodes (g.rows z).inodes

    blocks : Table image (volume_of (by_place image) (take n places)).blocks (part inode_rows (taken bw) rows') (part (inode_rows + most_blocks) (taken bw) rows')
    blocks = exact image _ bw inode_rows most_blocks rows' (omega (arith, room.both)) room.blocks g.good.blocks (g.rows z).blocks

    pub inodes_few : taken iw ≤ most_inodes
    inodes_few = omega (arith, total_within iw, room.inodes)

    pub blocks_few : taken bw ≤ most_blocks
    blocks_few = omega (arith, total_within bw, room.blocks)

    -- the search for the root, in the rows that are taken
    module _ (ni nb : ℕ) (ei : ni ≡ taken iw) (eb : nb ≡ taken bw) (s : Answer ℕ)
        (e : meant s ≡ found (length (take ni rows')) (take ni rows') (take (most_inodes + ni - most_inodes) (drop most_inodes rows')) 0) where
      sought : meant s ≡ found (length (part 0 (taken iw) rows')) (part 0 (taken iw) rows') (part most_inodes (taken iw) rows') 0
      sought = e ∙ rw (lent most_inodes ni rows', ei)

      rooted : (fs : List Descriptor) → take n places ≡ places_in image fs → inode_of (by_place image) (volume_of (by_place image) (places_in image fs)) root_id ≡ meant s
      rooted fs l = (rw l at (inodes.rows.counts 0)) ∙ sym sought

      pub fill_rootless : meant s ≡ none → Fills image places n (Err NoRoot) rows'
      fill_rootless q = record {
        number = λ fs l. no_root_lem image fs rows number (rw l at g.number) z (rooted fs l ∙ q);
        rowed = tt;
      }

      pub fill_passes : (p : ℕ) → meant s ≡ some p → Fills image places n (Ok (record { inodes = ni; blocks = nb })) rows'
      fill_passes p q = rw (ei, eb) (record {
        number = λ fs l. root_found image fs rows number (rw l at g.number) z p (rooted fs l ∙ q);
        rowed = record {
          inodes_few = inodes_few;
          blocks_few = blocks_few;
          inodes = inode_table inodes.usable (take n places) inodes.rows;
          blocks = block_table blocks.usable (take n places) blocks.rows;
          inode_rows_lem = inodes.rows;
          block_rows_lem = blocks.rows;
        };
      })
