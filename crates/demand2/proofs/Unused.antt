-- Ids for new records: the smallest of their range that no accepted record names.
use Rattle.std.specs.Prelude.{ℕ, zero, suc, ◌+◌, ◌*◌, ◌≤◌, ◌≡◌, refl, ◌≢◌, false, not, length, take, drop}
use Rattle.std.proofs.Common.{sym, ap, ⊎_elim, arith, length-append, length-take, length-drop}
use mathlib.Core.List.Memᴰ
use mathlib.Core.List.{List, [], ◌∷◌, Memᴰ}
use Rattle.std.proofs.lemmas.List.{length-map}
use Rattle.format.specs.Bytes.{Bytes}
use Rattle.format.specs.AreaHeader.{is_file_area}
use Rattle.format.specs.Record.{record_id, record_link, block_previous, record_size}
use Rattle.format.specs.Reading.{Acceptor, Placed, Part, taken, stretch, skip, parts, placed, area_parts, area_records}
use Rattle.volume.specs.View.{by_bytes}
use Rattle.volume.specs.Counting.{Volume, volume_of}
use Rattle.volume_laws.specs.Lists.{keep_shorter}
use Rattle.calls.specs.Areas.{area_bytes, file_areas, largest_image}
use Rattle.calls.specs.Mount.{records_of, bytes_of, records_in, accepted_records, volume, bad_description}
use Rattle.calls.specs.Storing.{named_by_inodes, named_by_blocks, named_ids}
use Rattle.calls.specs.declared.Descriptor.{Descriptor}
use Rattle.calls_laws.specs.Unused.{inodes_name, blocks_name}
use Rattle.demand2.proofs.Store.{file_listed}
use Rattle.demand2.proofs.Places.{few_areas, area_lengths}
use Rattle.demand2.specs.Unused.{Unused, most_named}

-- ---- what records name

by_inodes : (rs : List Bytes) (r : Bytes) → Memᴰ r rs → Memᴰ (record_id r) (named_by_inodes rs) × Memᴰ (record_link r) (named_by_inodes rs)
unfolding named_by_inodes
by_inodes [] r m = elim m [ ]
by_inodes (s ∷ rs) r (Memᴰ.head e) = (Memᴰ.head (ap record_id e), Memᴰ.tail (Memᴰ.head (ap record_link e)))
by_inodes (s ∷ rs) r (Memᴰ.tail m) =
    let h = by_inodes rs r m in
    (Memᴰ.tail (Memᴰ.tail h.0), Memᴰ.tail (Memᴰ.tail h.1))

by_blocks : (rs : List Bytes) (r : Bytes) → Memᴰ r rs
    → Memᴰ (record_id r) (named_by_blocks rs) × Memᴰ (record_link r) (named_by_blocks rs) × Memᴰ (block_previous r) (named_by_blocks rs)
unfolding named_by_blocks
by_blocks [] r m = elim m [ ]
by_blocks (s ∷ rs) r (Memᴰ.head e) = (
  Memᴰ.head (ap record_id e),
  Memᴰ.tail (Memᴰ.head (ap record_link e)),
  Memᴰ.tail (Memᴰ.tail (Memᴰ.head (ap block_previous e))),
)
by_blocks (s ∷ rs) r (Memᴰ.tail m) =
    let h = by_blocks rs r m in (
      Memᴰ.tail (Memᴰ.tail (Memᴰ.tail h.0)),
      Memᴰ.tail (Memᴰ.tail (Memᴰ.tail h.1)),
      Memᴰ.tail (Memᴰ.tail (Memᴰ.tail h.2)),
    )

-- what a block names is among the named ids
pub block_named : (v : Volume Bytes) (r : Bytes) → Memᴰ r v.blocks
    → Memᴰ (record_id r) (named_ids v) × Memᴰ (block_previous r) (named_ids v)
unfolding named_ids
block_named v r m =
    let h = by_blocks v.blocks r m in
    (Memᴰ.append_right (named_by_inodes v.inodes) h.0, Memᴰ.append_right (named_by_inodes v.inodes) h.2)

pub unnamed_unused : (v : Volume Bytes) (i : ℕ) → ¬ Memᴰ i (named_ids v) → Unused v i
unfolding named_ids
unnamed_unused v i n = record {
  no_inode = λ r m e. n (Memᴰ.append_left (named_by_blocks v.blocks) (Memᴰ.cast (sym e) (by_inodes v.inodes r m).0));
  no_parent = λ r m e. n (Memᴰ.append_left (named_by_blocks v.blocks) (Memᴰ.cast (sym e) (by_inodes v.inodes r m).1));
  no_block = λ r m e. n (Memᴰ.append_right (named_by_inodes v.inodes) (Memᴰ.cast (sym e) (by_blocks v.blocks r m).0));
  no_owner = λ r m e. n (Memᴰ.append_right (named_by_inodes v.inodes) (Memᴰ.cast (sym e) (by_blocks v.blocks r m).1));
  no_previous = λ r m e. n (Memᴰ.append_right (named_by_inodes v.inodes) (Memᴰ.cast (sym e) (by_blocks v.blocks r m).2));
}

inodes_used : (rs : List Bytes) (i : ℕ) → ((r : Bytes) → Memᴰ r rs → record_id r ≢ i) → ((r : Bytes) → Memᴰ r rs → record_link r ≢ i)
    → ¬ Memᴰ i (named_by_inodes rs)
unfolding named_by_inodes
inodes_used [] i a b m = Memᴰ.not-nil m
inodes_used (s ∷ rs) i a b (Memᴰ.head e) = a s (Memᴰ.head refl) (sym e)
inodes_used (s ∷ rs) i a b (Memᴰ.tail (Memᴰ.head e)) = b s (Memᴰ.head refl) (sym e)
inodes_used (s ∷ rs) i a b (Memᴰ.tail (Memᴰ.tail m)) =
    inodes_used rs i (λ r k. a r (Memᴰ.tail k)) (λ r k. b r (Memᴰ.tail k)) m

blocks_used : (rs : List Bytes) (i : ℕ) → ((r : Bytes) → Memᴰ r rs → record_id r ≢ i) → ((r : Bytes) → Memᴰ r rs → record_link r ≢ i)
    → ((r : Bytes) → Memᴰ r rs → block_previous r ≢ i) → ¬ Memᴰ i (named_by_blocks rs)
unfolding named_by_blocks
blocks_used [] i a b c m = Memᴰ.not-nil m
blocks_used (s ∷ rs) i a b c (Memᴰ.head e) = a s (Memᴰ.head refl) (sym e)
blocks_used (s ∷ rs) i a b c (Memᴰ.tail (Memᴰ.head e)) = b s (Memᴰ.head refl) (sym e)
blocks_used (s ∷ rs) i a b c (Memᴰ.tail (Memᴰ.tail (Memᴰ.head e))) = c s (Memᴰ.head refl) (sym e)
blocks_used (s ∷ rs) i a b c (Memᴰ.tail (Memᴰ.tail (Memᴰ.tail m))) =
    blocks_used rs i (λ r k. a r (Memᴰ.tail k)) (λ r k. b r (Memᴰ.tail k)) (λ r k. c r (Memᴰ.tail k)) m

-- and only what a record names is among the named ids
pub named_used : (v : Volume Bytes) (i : ℕ) → Memᴰ i (named_ids v) → ¬ Unused v i
unfolding named_ids
named_used v i m u = ⊎_elim
    (inodes_used v.inodes i u.no_inode u.no_parent)
    (blocks_used v.blocks i u.no_block u.no_owner u.no_previous)
    (Memᴰ.append_cases (named_by_inodes v.inodes) m)

-- ---- a volume names few ids: an area of n bytes has at most n records

skip_count : (b : ℕ) (l : List Part) → length (skip b l) ≤ suc (length l)
unfolding skip
skip_count b [] = omega arith
skip_count b (taken r ∷ l) = omega arith
skip_count b (stretch s ∷ l) = omega arith

part_count : (size : Acceptor) (t : Bytes) (n : ℕ) → length (parts size t n) ≤ length t
unfolding parts
part_count size [] n = omega arith
part_count size (b ∷ t) (suc n) = let h = part_count size t n in omega arith
part_count size (b ∷ t) zero = go (size (b ∷ t)) (part_count size t)
  where
    go : (k : ℕ) → ((n : ℕ) → length (parts size t n) ≤ length t)
        → length {A = Part} (elim k as (λ x. List Part) [ zero ↦ skip b (parts size t zero) | suc n ↦ taken (b ∷ take n t) ∷ parts size t n ])
        ≤ suc (length t)
    go zero ih = let h = ih 0 in omega (arith, skip_count b (parts size t 0))
    go (suc k) ih = let h = ih k in omega arith

placed_count : (p : ℕ) (l : List Part) → length (placed p l) ≤ length l
unfolding placed
placed_count p [] = omega arith
placed_count p (taken r ∷ l) = let h = placed_count (p + length r) l in omega arith
placed_count p (stretch s ∷ l) = let h = placed_count (p + length s) l in omega arith

area_count : (image : Bytes) (d : Descriptor) → length (bytes_of (records_of image d)) ≤ d.length
unfolding area_records area_parts
area_count image d =
    let a = area_bytes image d in
    omega (
      arith,
      length-map (records_of image d) (λ (p : Placed). p.bytes),
      placed_count 24 (parts record_size (drop 24 a) 0),
      part_count record_size (drop 24 a) 0,
      length-drop 24 a,
      length-take d.length (drop d.offset image),
    )

records_count : (image : Bytes) (fs : List Descriptor) → ((d : Descriptor) → Memᴰ d fs → d.length ≤ largest_image)
    → length (records_in image fs) ≤ length fs * largest_image
unfolding records_in
records_count image [] h = omega arith
records_count image (d ∷ fs) h =
    let i = records_count image fs (λ e m. h e (Memᴰ.tail m)) in
    omega (arith, length-append (bytes_of (records_of image d)) (records_in image fs), area_count image d, h d (Memᴰ.head refl))

pub few_named : (image : Bytes) (ds : List Descriptor) → bad_description image ds ≡ false → length (named_ids (volume image ds)) ≤ most_named
unfolding named_ids volume volume_of accepted_records file_areas
few_named image ds e =
    let rs = accepted_records image ds in
    omega (
      arith,
      length-append (named_by_inodes (volume_of by_bytes rs).inodes) (named_by_blocks (volume_of by_bytes rs).blocks),
      inodes_name (volume_of by_bytes rs).inodes,
      blocks_name (volume_of by_bytes rs).blocks,
      keep_shorter (λ r. not (by_bytes.is_block r)) rs,
      keep_shorter by_bytes.is_block rs,
      records_count image (file_areas image ds) (λ d m. (area_lengths image ds e d (file_listed image ds d m)).1),
      keep_shorter (λ d. is_file_area d.length (area_bytes image d)) ds,
      few_areas image ds e,
    )
