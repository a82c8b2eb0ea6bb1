-- Format. Document 01: "erases the described areas to FF, writes headers with count 0. The longest, first among equals, is scratch; the
-- others get ids 0, 1, ... in order. The root record (sequence 0) goes to the first file area."
use Prim.Native.Nat.{ℕ, zero, suc, ◌+◌, ◌-◌, ◌^◌, ◌≤◌, ◌<◌}
use Rattle.std.proofs.Math.Path.{◌≡◌, refl, sym, ap}
use Rattle.std.proofs.Common.{◌∙◌, ⊎_elim, length-append, take_at, drop_at, ltb→lt, eqb-true}
use Rattle.std.specs.Prelude.{◌≢◌, Bool, false, cond, not, drop, replicate, eqb, ltb}
use Rattle.std.proofs.Math.Bool.{true}
use mathlib.Core.List.{List, [], ◌∷◌, ◌++◌, map, Memᴰ}
use native.Mathlib.Omega.{arith}
use Rattle.std.proofs.Math.Decide.{ℕ_discrete}
use Rattle.std.proofs.Math.ListN.{length}
use Rattle.std.proofs.lemmas.List.{length-replicate, length-map}
use Rattle.std.proofs.Math.Seq.{drop-append-add}
use Rattle.std.proofs.Math.Dec.{T, leb, nltb→le, le→leb}
use Rattle.format.specs.Bytes.{Bytes, byte_at, le32}
use Rattle.format.specs.Crc.{check, crc_over, crc_byte, crc_bit}
use Rattle.format.specs.Ids.{NONE, root_id, is_inode_id, is_directory_id}
use Rattle.format.specs.AreaHeader.{area_header_size, area_id, collection_count, scratch_id, is_file_area, is_scratch}
use Rattle.format.specs.Record.{record_size, record_id, inode_rule, name_good}
use Rattle.format.specs.Reading.{ERASED, area_clean, area_free}
use Rattle.format.specs.Encoding.{area_header, inode_bytes, sealed, inode_front}
use Rattle.format_laws.specs.Crc.{Octets}
use Rattle.format_laws.specs.Encoding.{header_size_lem, header_valid, header_count, header_id, MeantInode, octets_none}
use Rattle.format_laws.specs.Octets.{octets_append}
use Rattle.format_laws.specs.Bytes.{same_byte}
use Rattle.format_laws.specs.Reading.{records_lawful}
use Rattle.volume.specs.Lists.{keep, all, once, same, only}
use Rattle.volume.specs.View.{by_bytes}
use Rattle.volume.specs.Counting.{volume_of, ids_of, counting, versions, newest, agree, all_agree}
use Rattle.volume.specs.Fate.{live, orphan, ascend, climb, fate_of, live_ids}
use Rattle.volume.specs.Path.{path_names}
use Rattle.volume.specs.Tree.{found, absent, is_entry, is_child, children, walk, lookup_names}
use Rattle.volume_laws.specs.Tests.{T→true, not_T→false, eqb_differ}
use Rattle.volume_laws.specs.Once.{Nodup, pigeons, mem_once}
use Rattle.volume_laws.specs.Lists.{keep_map, keep_cong, keep_mem, mem_keep, mem_all}
use Rattle.volume_laws.specs.Counting.{counting_absent}
use Rattle.volume_laws.specs.Climb.{fate_own}
use Rattle.calls.specs.Image.{put, erased}
use Rattle.calls.specs.Refusal.{first_refusal}
use Rattle.calls.specs.Areas.{area_end, area_bytes, file_areas, scratch_areas}
use Rattle.calls.specs.Mount.{records_of, records_in, accepted_records, volume, bad_description, shared_area_id, wrong_areas, short_scratch, too_many_ids}
use Rattle.calls.specs.Mount.{no_root}
use Rattle.calls.specs.Format.{empty_area, format_number, longest_length, Labelled, labelled, blanked, root_bytes, rooted, formatted, image_formatted}
use Rattle.calls.specs.Read.{refused, give}
use Rattle.calls.specs.Create.{is_root}
use Rattle.calls.specs.Collect.{is_blank}
use Rattle.calls.specs.declared.Descriptor.{Descriptor}
use Rattle.calls_laws.specs.Checks.{Passes, mounts, InArea, area_fits, areas_apart}
use Rattle.image_laws.specs.Apart.{Apart}
use Rattle.image_laws.specs.Laws.{length_put, part_put, part_outside, part_around, byte_outside}
use Rattle.image_laws.specs.Stores.{drop_erased}
use Rattle.demand2.specs.Octet.{octets_erased, octets_put, octets_inode, octets_header}
use Rattle.demand2.specs.Area.{Whole, erased_clean, erased_starts, erased_empty}
use Rattle.demand2.specs.Store.{free_place, RecordFits, OneStored}
use Rattle.demand2.proofs.Store.{one_stored, same_file_areas, same_scratch_areas, same_area_ids}
use Rattle.demand2.proofs.Store.{same_described, file_listed, same_area}
use Rattle.demand2.specs.Places.{Distinct}
use Rattle.demand2.proofs.Places.{few_areas, area_lengths, areas_distinct, files_distinct}
use Rattle.calls_laws.specs.Unused.{upwards, upwards_mem, upwards_nodup, upwards_length}
use Rattle.demand2.specs.Found.{passed_check, resolved, read_given_lem}
use Rattle.demand2.proofs.NewRecord.{inode_made}
use Rattle.demand2.specs.Labels.{area_of, label_of, is_scratch_label, is_file_label, labelled_areas, longest_bounds, longest_there, Labels, labels}
use Rattle.demand2.specs.Format.{AfterFormat}

-- ---- areas erased one after the other

-- each area is apart from those behind it
abbrev Spread : List Labelled → Type 0
Spread [] = Unit {0}
Spread (l ∷ ls) = ((m : Labelled) → Memᴰ m ls → Apart l.area.offset l.area.length m.area.offset m.area.length) × Spread ls

spread : (image : Bytes) (ds : List Descriptor) (described : bad_description image ds ≡ false) (ls : List Labelled) → Distinct (map area_of ls)
    → ((d : Descriptor) → Memᴰ d (map area_of ls) → Memᴰ d ds) → Spread ls
spread image ds described [] n h = tt
spread image ds described (l ∷ ls) n h = (apart, spread image ds described ls n.1 (λ d m. h d (mathlib.Core.List.Memᴰ.tail m)))
  where
    apart : (m : Labelled) → Memᴰ m ls → Apart l.area.offset l.area.length m.area.offset m.area.length
    apart m k = record {
      no_common = λ i j f g e.
          let q = areas_apart image ds described l.area m.area (h l.area (mathlib.Core.List.Memᴰ.head refl))
          (h m.area (mathlib.Core.List.Memᴰ.tail (mathlib.Core.List.Memᴰ.map area_of k)))
          (l.area.offset + i) (omega arith, omega arith) (omega arith, omega arith) in
          n.0 (mathlib.Core.List.Memᴰ.cast q (mathlib.Core.List.Memᴰ.map area_of k));
    }

pub empty_length : (size count id : ℕ) → area_header_size ≤ size → length (empty_area size count id) ≡ size
unfolding empty_area
empty_length size count id h =
    omega (
      arith,
      length-append (area_header size count id) (erased (size - area_header_size)),
      header_size_lem size count id,
      length-replicate
          (size - area_header_size) ERASED,
    )

-- the area fits into an image of n bytes, and has a header
abbrev InImage : ℕ → Labelled → Type 0
InImage n l = (area_header_size ≤ l.area.length) × (area_end l.area ≤ n)

stamp : Bytes → Labelled → Bytes
stamp image l = put image l.area.offset (empty_area l.area.length 0 l.id)

module _ (image : Bytes) (l : Labelled) (f : InImage (length image) l) where
  stamp_fits : l.area.offset + length (empty_area l.area.length 0 l.id) ≤ length image
  stamp_fits = omega (arith, empty_length l.area.length 0 l.id f.0, f.1)

  stamp_length : length (stamp image l) ≡ length image
  unfolding stamp
  stamp_length = length_put image l.area.offset _ stamp_fits

  stamp_here : area_bytes (stamp image l) l.area ≡ empty_area l.area.length 0 l.id
  unfolding stamp
  stamp_here = rw (empty_length l.area.length 0 l.id f.0) at
      (part_put image l.area.offset (empty_area l.area.length 0 l.id) stamp_fits)

  stamp_other : (d : Descriptor) → Apart d.offset d.length l.area.offset l.area.length → area_bytes (stamp image l) d ≡ area_bytes image d
  unfolding stamp
  stamp_other d a =
      part_outside image l.area.offset (empty_area l.area.length 0 l.id) stamp_fits d.offset d.length
      (rw (empty_length l.area.length 0 l.id f.0) a)

  stamp_byte : (j : ℕ) → ¬ InArea l.area j → byte_at (stamp image l) j ≡ byte_at image j
  unfolding stamp
  stamp_byte j n = byte_outside image l.area.offset (empty_area l.area.length 0 l.id) stamp_fits j
      (λ k h e. n (omega arith, omega (arith, empty_length l.area.length 0 l.id f.0)))

blanked_length : (ls : List Labelled) (image : Bytes) → ((l : Labelled) → Memᴰ l ls → InImage (length image) l)
    → length (blanked image ls) ≡ length image
unfolding blanked stamp
blanked_length [] image h = refl
blanked_length (l ∷ ls) image h =
    let e = stamp_length image l (h l (mathlib.Core.List.Memᴰ.head refl)) in
    blanked_length ls (stamp image l) (λ m k. rw e (h m (mathlib.Core.List.Memᴰ.tail k))) ∙ e

blanked_other : (ls : List Labelled) (image : Bytes) → ((l : Labelled) → Memᴰ l ls → InImage (length image) l) → (d : Descriptor)
    → ((l : Labelled) → Memᴰ l ls → Apart d.offset d.length l.area.offset l.area.length)
    → area_bytes (blanked image ls) d ≡ area_bytes image d
unfolding blanked stamp
blanked_other [] image h d a = refl
blanked_other (l ∷ ls) image h d a =
    let f = h l (mathlib.Core.List.Memᴰ.head refl) in
    blanked_other ls (stamp image l) (λ m k. rw (stamp_length image l f) (h m (mathlib.Core.List.Memᴰ.tail k))) d (λ m k. a m (mathlib.Core.List.Memᴰ.tail k))
    ∙ stamp_other image l f d (a l (mathlib.Core.List.Memᴰ.head refl))

blanked_here : (ls : List Labelled) (image : Bytes) → ((l : Labelled) → Memᴰ l ls → InImage (length image) l) → Spread ls
    → (l : Labelled) → Memᴰ l ls → area_bytes (blanked image ls) l.area ≡ empty_area l.area.length 0 l.id
unfolding blanked stamp
blanked_here [] image h s l m = elim m [ ]
blanked_here (m ∷ ls) image h s l k =
    ⊎_elim first (λ k. blanked_here ls (stamp image m) inside s.1 l k) (mathlib.Core.List.Memᴰ.cases_cons k)
  where
    f : InImage (length image) m
    f = h m (mathlib.Core.List.Memᴰ.head refl)

    inside : (l : Labelled) → Memᴰ l ls → InImage (length (stamp image m)) l
    inside l k = rw (stamp_length image m f) (h l (mathlib.Core.List.Memᴰ.tail k))

    first : l ≡ m → area_bytes (blanked (stamp image m) ls) l.area ≡ empty_area l.area.length 0 l.id
    first e = rw e (blanked_other ls (stamp image m) inside m.area s.0 ∙ stamp_here image m f)

blanked_byte : (ls : List Labelled) (image : Bytes) → ((l : Labelled) → Memᴰ l ls → InImage (length image) l) → (j : ℕ)
    → ((l : Labelled) → Memᴰ l ls → ¬ InArea l.area j) → byte_at (blanked image ls) j ≡ byte_at image j
unfolding blanked stamp
blanked_byte [] image h j n = refl
blanked_byte (l ∷ ls) image h j n =
    let f = h l (mathlib.Core.List.Memᴰ.head refl) in
    blanked_byte ls (stamp image l) (λ m k. rw (stamp_length image l f) (h m (mathlib.Core.List.Memᴰ.tail k))) j (λ m k. n m (mathlib.Core.List.Memᴰ.tail k))
    ∙ stamp_byte image l f j (n l (mathlib.Core.List.Memᴰ.head refl))

-- ---- what an empty area is

module _ (size count id : ℕ) (low : size < 2 ^ 32) where
  pub empty_file : is_file_area size (empty_area size count id) ≡ not (eqb id scratch_id)
  unfolding is_file_area empty_area
  empty_file = rw (
    is_file_area,
    header_valid size count id (erased (size - area_header_size)) low,
    header_id size count id
        (erased (size - area_header_size)),
  )

  pub empty_scratch : is_scratch size (empty_area size count id) ≡ eqb id scratch_id
  unfolding is_scratch empty_area
  empty_scratch = rw (
    is_scratch,
    header_valid size count id (erased (size - area_header_size)) low,
    header_id size count id
        (erased (size - area_header_size)),
  )

pub empty_erased : (size count id : ℕ) → drop area_header_size (empty_area size count id) ≡ replicate (size - area_header_size) ERASED
unfolding empty_area
empty_erased size count id = drop_at (area_header size count id) (erased (size - area_header_size)) area_header_size (header_size_lem size count id)

-- FF behind its header
pub empty_blank : (size count id : ℕ) → is_blank (empty_area size count id) ≡ true
unfolding is_blank all
empty_blank size count id = rw (empty_erased size count id) (blank (size - area_header_size))
  where
    blank : (n : ℕ) → all (λ b. eqb b ERASED) (replicate n ERASED) ≡ true
    blank zero = refl
    blank (suc n) = blank n

-- a record stored at the start of its free space
empty_stored : (size count id : ℕ) (b : Bytes)
    → put (empty_area size count id) area_header_size b ≡ area_header size count id ++ (b ++ erased (size - (area_header_size + length b)))
unfolding put empty_area
empty_stored size count id b =
    let front = area_header size count id in
    let free = erased (size - area_header_size) in
    let d : drop (area_header_size + length b) (front ++ free) ≡ drop (length b) free
    = ap (λ (k : ℕ). drop (k + length b) (front ++ free)) (sym (header_size_lem size count id)) ∙ drop-append-add front free (length b) in
    let e : size - area_header_size - length b ≡ size - (area_header_size + length b) = omega arith in
    rw (take_at front free area_header_size (header_size_lem size count id), d, drop_erased (length b) (size - area_header_size), e)

-- an empty area is bytes
pub octets_empty : (size count id : ℕ) → count < 256 → id < 256 → Octets (empty_area size count id)
unfolding empty_area
octets_empty size count id c i =
    octets_append (area_header size count id) (erased (size - area_header_size)) (octets_header size count id c i)
    (octets_erased (size - area_header_size))

octets_blanked : (ls : List Labelled) (image : Bytes) → ((l : Labelled) → Memᴰ l ls → l.id < 256) → Octets image → Octets (blanked image ls)
unfolding blanked stamp
octets_blanked [] image h o = o
octets_blanked (l ∷ ls) image h o =
    octets_blanked ls (stamp image l) (λ m k. h m (mathlib.Core.List.Memᴰ.tail k))
    (octets_put image l.area.offset _ o (octets_empty l.area.length 0 l.id (omega arith) (h l (mathlib.Core.List.Memᴰ.head refl))))

-- ---- the root record

-- "The root record .. goes to the first file area": the first label that is not scratch's
rooted_first : (ls : List Labelled) (image : Bytes) (l : Labelled) (rest : List Labelled) → keep is_file_label ls ≡ l ∷ rest → l.id ≡ 0
    → rooted image ls ≡ put image (l.area.offset + area_header_size) root_bytes
unfolding rooted keep
rooted_first [] image l rest e z = let y : ◌≡◌ {A = ℕ} 0 1 = cc in absurd (omega arith)
rooted_first (k ∷ ls) image l rest e z = go (eqb k.id scratch_id) refl e (λ q. rooted_first ls image l rest q z)
  where
    go : (b : Bool) → eqb k.id scratch_id ≡ b → cond (not b) (k ∷ keep is_file_label ls) (keep is_file_label ls) ≡ l ∷ rest
        → (keep is_file_label ls ≡ l ∷ rest → rooted image ls ≡ put image (l.area.offset + area_header_size) root_bytes)
        → rooted image (k ∷ ls) ≡ put image (l.area.offset + area_header_size) root_bytes
    go true c q ih = rw (eqb-true k.id scratch_id c) (ih q)
    go false c q ih = let w : k ≡ l = cc in rw (w, z)

meant_root : MeantInode root_id 0 NONE []
unfolding inode_rule is_inode_id name_good
meant_root = record {
  id_fits = omega arith;
  sequence_fits = omega arith;
  parent_fits = omega arith;
  name_fits = omega arith;
  rule = refl;
  good = refl;
  octets = octets_none;
}

root_whole : Whole record_size root_bytes
root_whole = (inode_made root_id 0 NONE [] meant_root).whole

-- a volume of the root alone
few_root : too_many_ids (volume_of by_bytes (root_bytes ∷ [])) ≡ false
unfolding too_many_ids volume_of ids_of once keep le32 inode_bytes sealed inode_front check crc_over crc_byte crc_bit
few_root = refl

agree_root : all_agree by_bytes (root_bytes ∷ []) ≡ true
unfolding all_agree all agree same le32 inode_bytes sealed inode_front check crc_over crc_byte crc_bit
agree_root = refl

root_root : no_root (volume_of by_bytes (root_bytes ∷ [])) ≡ false
unfolding no_root volume_of counting versions newest keep le32 inode_bytes sealed inode_front check crc_over crc_byte crc_bit
root_root = refl

live_root : live_ids by_bytes (volume_of by_bytes (root_bytes ∷ [])) ≡ root_id ∷ []
unfolding live_ids fate_of climb ascend volume_of ids_of once counting versions newest keep le32 inode_bytes sealed inode_front check crc_over crc_byte crc_bit
live_root = refl

-- "/" is found, and nothing else
none_below : (n : Bytes) → children by_bytes (volume_of by_bytes (root_bytes ∷ [])) root_id n ≡ []
unfolding
    children is_child is_entry fate_of climb ascend volume_of ids_of once counting versions newest keep le32 inode_bytes sealed inode_front check crc_over
    crc_byte crc_bit
none_below n = refl

root_found : (ns : List Bytes) → lookup_names by_bytes (volume_of by_bytes (root_bytes ∷ [])) ns ≡ cond (is_root ns) (found root_id) (absent 9)
unfolding lookup_names walk is_directory_id only
root_found [] = refl
root_found (n ∷ ns) = rw (none_below n, eqb_differ (length (n ∷ ns)) 0 (λ e. omega arith))

root_fate : fate_of by_bytes (volume_of by_bytes (root_bytes ∷ [])) root_id ≡ live
unfolding fate_of climb ascend volume_of ids_of once counting versions newest keep le32 inode_bytes sealed inode_front check crc_over crc_byte crc_bit
root_fate = refl

other_fate : (i : ℕ) → i ≢ root_id → fate_of by_bytes (volume_of by_bytes (root_bytes ∷ [])) i ≡ orphan
unfolding ascend volume_of keep le32 inode_bytes sealed inode_front check crc_over crc_byte crc_bit
other_fate i n = fate_own by_bytes (volume_of by_bytes (root_bytes ∷ [])) i orphan (rw (counting_absent by_bytes (root_bytes ∷ []) i no_other, ascend))
  where
    no_other : (r : Bytes) → Memᴰ r (root_bytes ∷ []) → record_id r ≢ i
    no_other r m e = n (sym e ∙ ap record_id (mathlib.Core.List.Memᴰ.eq_of_singleton m))

root_given : (i position room : ℕ) → give (volume_of by_bytes (root_bytes ∷ [])) i position room ≡ refused (cond (eqb i root_id) 11 9)
unfolding give is_directory_id
root_given i position room = go (ℕ_discrete i root_id)
  where
    go : Dec (i ≡ root_id) → give (volume_of by_bytes (root_bytes ∷ [])) i position room ≡ refused (cond (eqb i root_id) 11 9)
    go (yes e) = rw (e, root_fate)
    go (no e) = rw (other_fate i e, eqb_differ i root_id e)

-- ---- the theorem

-- ids that differ: check 2
pub own_ids : (l : List ℕ) → Nodup l → ltb (length (once l)) (length l) ≡ false
own_ids l n = not_T→false (λ t. let h = ltb→lt (length (once l)) (length l) t in omega (arith, pigeons l (once l) n (mem_once l)))

map_with : {A B C : Type 0} (f : A → B) (g : B → C) (h : A → C) (l : List A) → ((a : A) → Memᴰ a l → g (f a) ≡ h a) → map g (map f l) ≡ map h l
map_with f g h [] e = refl
map_with f g h (a ∷ l) e = let r = map_with f g h l (λ b m. e b (mathlib.Core.List.Memᴰ.tail m)) in let q = e a (mathlib.Core.List.Memᴰ.head refl) in λ i. q i ∷ r i

module _ (image : Bytes) (ds : List Descriptor) (accepted : format_number image ds ≡ 0) where
  checks : (bad_description image ds ≡ false) × (2 ≤ length ds)
  unfolding format_number first_refusal
  checks =
      let a = passed_check (bad_description image ds) 0 _ accepted in
      let b = passed_check (ltb (length ds) 2) 2 0 a.1 in
      (a.0, nltb→le (length ds) 2 (rw b.0 tt))

  abbrev ls : List Labelled
  ls = labelled (longest_length ds) 0 ds

  lab : Labels (longest_length ds) 0 ds
  lab =
      let t = longest_there ds (λ z. omega (arith, checks.1)) in
      labels (longest_length ds) 0 ds (omega (arith, few_areas image ds checks.0)) t.0 t.1 t.2

  listed : (l : Labelled) → Memᴰ l ls → Memᴰ l.area ds
  listed l m = rw (labelled_areas (longest_length ds) 0 ds) at (mathlib.Core.List.Memᴰ.map area_of m)

  in_image : (l : Labelled) → Memᴰ l ls → InImage (length image) l
  in_image l m = area_fits image ds checks.0 l.area (listed l m)

  low : (l : Labelled) → Memᴰ l ls → l.area.length < 2 ^ 32
  low l m = omega (arith, (area_lengths image ds checks.0 l.area (listed l m)).1)

  -- the areas erased, with their headers
  image₁ : Bytes
  image₁ = blanked image ls

  long₁ : length image₁ ≡ length image
  unfolding image₁
  long₁ = blanked_length ls image in_image

  there₁ : (l : Labelled) → Memᴰ l ls → area_bytes image₁ l.area ≡ empty_area l.area.length 0 l.id
  unfolding image₁
  there₁ = blanked_here ls image in_image
      (spread image ds checks.0 ls (rw (labelled_areas (longest_length ds) 0 ds) (areas_distinct image ds checks.0))
      (λ d m. rw (labelled_areas (longest_length ds) 0 ds) at m))

  described₁ : bad_description image₁ ds ≡ false
  unfolding bad_description
  described₁ = rw (bad_description, long₁) checks.0

  files₁ : file_areas image₁ ds ≡ map area_of (keep is_file_label ls)
  unfolding file_areas
  files₁ =
      ap (keep (λ d. is_file_area d.length (area_bytes image₁ d))) (sym (labelled_areas (longest_length ds) 0 ds))
      ∙ keep_map area_of (λ d. is_file_area d.length (area_bytes image₁ d)) ls
      ∙ ap (map area_of) (keep_cong _ _ ls (λ l m. ap (is_file_area l.area.length) (there₁ l m) ∙ empty_file l.area.length 0 l.id (low l m)))

  scratch₁ : scratch_areas image₁ ds ≡ lab.scratch ∷ []
  unfolding scratch_areas
  scratch₁ =
      ap (keep (λ d. is_scratch d.length (area_bytes image₁ d))) (sym (labelled_areas (longest_length ds) 0 ds))
      ∙ keep_map area_of (λ d. is_scratch d.length (area_bytes image₁ d)) ls
      ∙ ap (map area_of) (keep_cong _ _ ls
      (λ l m. ap (is_scratch l.area.length) (there₁ l m) ∙ empty_scratch l.area.length 0 l.id (low l m)) ∙ lab.one_scratch)

  ids₁ : map (λ d. area_id (area_bytes image₁ d)) (file_areas image₁ ds) ≡ upwards lab.count 0
  unfolding empty_area
  ids₁ =
      ap (map (λ d. area_id (area_bytes image₁ d))) files₁
      ∙ map_with area_of (λ d. area_id (area_bytes image₁ d)) label_of (keep is_file_label ls)
      (λ l m. ap area_id (there₁ l (keep_mem is_file_label ls m).0) ∙ header_id l.area.length 0 l.id (erased (l.area.length - area_header_size)))
      ∙ lab.in_order

  count_files : length (file_areas image₁ ds) ≡ lab.count
  count_files = sym (length-map (file_areas image₁ ds) (λ d. area_id (area_bytes image₁ d))) ∙ ap length ids₁ ∙ upwards_length lab.count 0

  -- the first file area has the label 0
  home : (l : Labelled) × (rest : List Labelled) × (keep is_file_label ls ≡ l ∷ rest) × (l.id ≡ 0)
  unfolding upwards
  home = go (keep is_file_label ls) refl lab.count lab.in_order (omega (arith, lab.others, checks.1))
    where
      go : (fs : List Labelled) → keep is_file_label ls ≡ fs → (n : ℕ) → map label_of fs ≡ upwards n 0 → 1 ≤ n
          → (l : Labelled) × (rest : List Labelled) × (keep is_file_label ls ≡ l ∷ rest) × (l.id ≡ 0)
      go fs q zero e p = absurd (omega arith)
      go [] q (suc n) e p = let z : ◌≡◌ {A = ℕ} 0 1 = cc in absurd (omega arith)
      go (l ∷ fs) q (suc n) e p = (l, fs, q, cc)

  home_in : Memᴰ home.0 ls
  home_in = let m : Memᴰ home.0 (keep is_file_label ls) = rw home.2 (mathlib.Core.List.Memᴰ.head refl) in (keep_mem is_file_label ls m).0

  abbrev area : Descriptor
  area = home.0.area

  -- an area before the root is stored
  module _ (l : Labelled) (m : Memᴰ l ls) where
    headed : area_header_size ≤ length (area_bytes image₁ l.area)
    headed = rw (there₁ l m) (omega (arith, empty_length l.area.length 0 l.id (in_image l m).0, (in_image l m).0))

    erased₁ : drop area_header_size (area_bytes image₁ l.area) ≡ replicate (l.area.length - area_header_size) ERASED
    erased₁ = ap (drop area_header_size) (there₁ l m) ∙ empty_erased l.area.length 0 l.id

    clean₁ : area_clean record_size (area_bytes image₁ l.area) ≡ true
    clean₁ = erased_clean record_size records_lawful (area_bytes image₁ l.area) (l.area.length - area_header_size) headed erased₁

    empty₁ : records_of image₁ l.area ≡ []
    empty₁ = erased_empty record_size records_lawful (area_bytes image₁ l.area) (l.area.length - area_header_size) headed erased₁

    free₁ : area_free record_size (area_bytes image₁ l.area) ≡ area_header_size
    free₁ = erased_starts record_size records_lawful (area_bytes image₁ l.area) (l.area.length - area_header_size) headed erased₁

  -- of a file area: its label
  file_label : (d : Descriptor) → Memᴰ d (file_areas image₁ ds) → (l : Labelled) × Memᴰ l ls × (l.area ≡ d)
  file_label d m =
      let t = mathlib.Core.List.Memᴰ.of_map area_of (keep is_file_label ls) (rw files₁ at m) in
      (t.0, (keep_mem is_file_label ls t.1).0, t.2)

  fits : RecordFits image₁ ds area root_bytes
  unfolding inode_bytes sealed inode_front
  fits = record {
    file = rw (files₁, home.2) (mathlib.Core.List.Memᴰ.head refl);
    clean = clean₁ home.0 home_in;
    room = rw (free₁ home.0 home_in) (omega (arith, (area_lengths image ds checks.0 area (listed home.0 home_in)).0));
  }

  -- the root stored
  image' : Bytes
  image' = put image₁ (free_place image₁ area) root_bytes

  is_formatted : formatted image ds ≡ image'
  unfolding formatted image' image₁
  is_formatted =
      rooted_first ls image₁ home.0 home.1 home.2 home.3
      ∙ ap (λ (n : ℕ). put image₁ (area.offset + n) root_bytes) (sym (free₁ home.0 home_in))

  stored : OneStored image₁ image' ds area root_bytes
  unfolding image'
  stored = one_stored image₁ ds described₁ area root_bytes fits root_whole

  files : file_areas image' ds ≡ file_areas image₁ ds
  files = same_file_areas stored

  reads_root : records_of image' area ≡ record { place = area_header_size; bytes = root_bytes } ∷ []
  reads_root = stored.reads ∙ rw (empty₁ home.0 home_in, free₁ home.0 home_in)

  reads_none : (d : Descriptor) → Memᴰ d (file_areas image₁ ds) → d ≢ area → records_of image' d ≡ []
  reads_none d m n =
      let t = file_label d m in
      rw (stored.elsewhere d (file_listed image₁ ds d m) n) (rw t.2 at (empty₁ t.0 t.1))

  no_records : (fs : List Descriptor) → ((d : Descriptor) → Memᴰ d fs → Memᴰ d (file_areas image₁ ds)) → ¬ Memᴰ area fs
      → records_in image' fs ≡ []
  unfolding records_in
  no_records [] h n = refl
  no_records (d ∷ fs) h n =
      rw (reads_none d (h d (mathlib.Core.List.Memᴰ.head refl)) (λ e. n (mathlib.Core.List.Memᴰ.head (sym e))))
      (no_records fs (λ e m. h e (mathlib.Core.List.Memᴰ.tail m)) (λ m. n (mathlib.Core.List.Memᴰ.tail m)))

  one_record : (fs : List Descriptor) → Distinct fs → ((d : Descriptor) → Memᴰ d fs → Memᴰ d (file_areas image₁ ds)) → Memᴰ area fs
      → records_in image' fs ≡ root_bytes ∷ []
  unfolding records_in
  one_record [] n h m = absurd (mathlib.Core.List.Memᴰ.not-nil m)
  one_record (d ∷ fs) n h m = go (same_area d area) (one_record fs n.1 (λ e m. h e (mathlib.Core.List.Memᴰ.tail m)))
    where
      go : Dec (d ≡ area) → (Memᴰ area fs → records_in image' fs ≡ root_bytes ∷ []) → records_in image' (d ∷ fs) ≡ root_bytes ∷ []
      go (yes e) ih = rw (e, reads_root) (ap (λ (l : List Bytes). root_bytes ∷ l)
          (no_records fs (λ e m. h e (mathlib.Core.List.Memᴰ.tail m)) (λ k. n.0 (mathlib.Core.List.Memᴰ.cast e k))))
      go (no e) ih = rw (reads_none d (h d (mathlib.Core.List.Memᴰ.head refl)) e) (ih (⊎_elim (λ z. absurd (e (sym z))) (λ k. k) (mathlib.Core.List.Memᴰ.cases_cons m)))

  only_record : accepted_records image' ds ≡ root_bytes ∷ []
  unfolding accepted_records
  only_record = rw files (one_record (file_areas image₁ ds) (files_distinct image₁ ds described₁) (λ d m. m) fits.file)

  volume_is : volume image' ds ≡ volume_of by_bytes (root_bytes ∷ [])
  unfolding volume
  volume_is = ap (volume_of by_bytes) only_record

  -- a label is one byte
  label_low : (l : Labelled) → Memᴰ l ls → l.id < 256
  label_low l m = go (eqb l.id scratch_id) refl
    where
      go : (b : Bool) → eqb l.id scratch_id ≡ b → l.id < 256
      go true e = omega (arith, eqb-true l.id scratch_id e)
      go false e =
          let k : Memᴰ l.id (upwards lab.count 0) = rw lab.in_order at (mathlib.Core.List.Memᴰ.map label_of (mem_keep is_file_label ls m (rw e tt))) in
          omega (arith, upwards_mem lab.count 0 k, lab.others, few_areas image ds checks.0)

  -- the areas' bytes
  file_areas_lem : file_areas image' ds ≡ area ∷ map area_of home.1
  file_areas_lem = files ∙ files₁ ∙ ap (map area_of) home.2

  area_bytes_lem : area_bytes image' area ≡ area_header area.length 0 0 ++ (root_bytes ++ erased (area.length - (area_header_size + length root_bytes)))
  unfolding image'
  area_bytes_lem =
      let h = in_image home.0 home_in in
      let f = free₁ home.0 home_in in
      let e : free_place image₁ area - area.offset ≡ area_header_size = omega (arith, f) in
      part_around image₁ (free_place image₁ area) root_bytes (omega (arith, fits.room, h.1, long₁)) area.offset area.length (omega arith)
      fits.room
      ∙ rw (e, there₁ home.0 home_in, home.3) (empty_stored area.length 0 0 root_bytes)

  -- an area that does not hold the root
  other_bytes : (l : Labelled) → Memᴰ l ls → l.area ≢ area → area_bytes image' l.area ≡ empty_area l.area.length 0 l.id
  other_bytes l m n = stored.elsewhere l.area (listed l m) n ∙ there₁ l m

  scratch_label : Memᴰ (record { area = lab.scratch; id = scratch_id }) ls
  scratch_label =
      let m : Memᴰ (record { area = lab.scratch; id = scratch_id }) (keep is_scratch_label ls) = rw lab.one_scratch (mathlib.Core.List.Memᴰ.head refl) in
      (keep_mem is_scratch_label ls m).0

  scratch_other : lab.scratch ≢ area
  unfolding empty_area
  scratch_other e =
      let s = ap area_id (there₁ (record { area = lab.scratch; id = scratch_id }) scratch_label)
      ∙ header_id lab.scratch.length 0 scratch_id (erased (lab.scratch.length - area_header_size)) in
      let h = ap area_id (there₁ home.0 home_in) ∙ header_id area.length 0 home.0.id (erased (area.length - area_header_size)) in
      omega (arith, sym s ∙ ap (λ (d : Descriptor). area_id (area_bytes image₁ d)) e ∙ h, home.3)

  scratch_erased : area_bytes image' lab.scratch ≡ empty_area lab.scratch.length 0 scratch_id
  scratch_erased = other_bytes (record { area = lab.scratch; id = scratch_id }) scratch_label scratch_other

  rest_label : (d : Descriptor) → Memᴰ d (map area_of home.1) → Memᴰ d (file_areas image₁ ds) × (d ≢ area)
  rest_label d m = (
    rw (files₁, home.2) (mathlib.Core.List.Memᴰ.tail m),
    λ e. let k : Distinct (area ∷ map area_of home.1) = rw (files₁, home.2) at (files_distinct image₁ ds described₁) in k.0 (mathlib.Core.List.Memᴰ.cast (sym e) m),
  )

  rest_erased : (d : Descriptor) → Memᴰ d (map area_of home.1) → area_bytes image' d ≡ empty_area d.length 0 (area_id (area_bytes image' d))
  unfolding empty_area
  rest_erased d m =
      let r = rest_label d m in
      let t = file_label d r.0 in
      let e : area_bytes image' d ≡ empty_area d.length 0 t.0.id = rw t.2 at (other_bytes t.0 t.1 (λ q. r.1 (sym t.2 ∙ q))) in
      let i = ap area_id e ∙ header_id d.length 0 t.0.id (erased (d.length - area_header_size)) in
      e ∙ ap (empty_area d.length 0) (sym i)

  scratch_areas_lem : scratch_areas image' ds ≡ lab.scratch ∷ []
  scratch_areas_lem = same_scratch_areas stored ∙ scratch₁

  area_ids : map (λ d. area_id (area_bytes image' d)) (file_areas image' ds) ≡ upwards (length (file_areas image' ds)) 0
  area_ids = rw (files, count_files) (same_area_ids stored (file_areas image₁ ds) (file_listed image₁ ds) ∙ ids₁)

  some_file : 1 ≤ length (file_areas image' ds)
  some_file = rw files (omega (arith, count_files, lab.others, checks.1))

  passes : Passes image' ds
  unfolding shared_area_id wrong_areas short_scratch all
  passes = record {
    described = same_described stored ∙ described₁;
    own_ids = rw area_ids (own_ids (upwards (length (file_areas image' ds)) 0) (upwards_nodup (length (file_areas image' ds)) 0));
    areas = rw (eqb_differ (length (file_areas image' ds)) 0 (λ z. omega (arith, some_file, z)), scratch_areas_lem);
    scratch = rw (
      scratch_areas_lem,
      T→true {b = all (λ f. leb f.length lab.scratch.length) (file_areas image' ds)}
          (mem_all _ (file_areas image' ds) longest),
    );
    few = rw volume_is few_root;
    agree = rw only_record agree_root;
    root = rw volume_is root_root;
  }
    where
      longest : (d : Descriptor) → Memᴰ d (file_areas image' ds) → T (leb d.length lab.scratch.length)
      longest d m = le→leb d.length lab.scratch.length
          (rw lab.longest (longest_bounds ds d (file_listed image' ds d m)))

  after_format : AfterFormat image (formatted image ds) ds
  unfolding empty_area image' image₁
  after_format = rw is_formatted (record {
    mounts = mounts image' ds passes;
    records = only_record;
    only_root = rw volume_is live_root;
    clean = λ d m. clean_after d (rw files at m) (same_area d area);
    scratch = lab.scratch;
    scratch_is = scratch_areas_lem;
    equals = lab.rest;
    first_longest = lab.first;
    scratch_bytes = scratch_erased;
    scratch_blank = ap is_blank scratch_erased ∙ empty_blank lab.scratch.length 0 scratch_id;
    others = lab.others ∙ ap suc (sym (ap length files ∙ count_files));
    ids = area_ids;
    counts = counted;
    first = area;
    rest = map area_of home.1;
    files = file_areas_lem;
    first_bytes = area_bytes_lem;
    first_reads = reads_root;
    rest_bytes = rest_erased;
    rest_reads = λ d m. let r = rest_label d m in reads_none d r.0 r.1;
    paths = λ b p. resolved image' ds b p (mounts image' ds passes) ∙ rw (volume_is, root_found (path_names b p));
    reads = λ i position room. read_given_lem image' ds (mounts image' ds passes) i position room ∙ rw volume_is (root_given i position room);
    one_length = stored.one_length ∙ long₁;
    outside = λ i n. byte_after i n ∙ byte_before i n;
    octets = λ o. octets_put image₁ (free_place image₁ area) root_bytes (octets_blanked ls image label_low o)
        (octets_inode root_id 0 NONE [] (omega arith) octets_none);
  })
    where
      clean_after : (d : Descriptor) → Memᴰ d (file_areas image₁ ds) → Dec (d ≡ area) → area_clean record_size (area_bytes image' d) ≡ true
      clean_after d m (yes e) = rw e stored.clean
      clean_after d m (no e) =
          let t = file_label d m in
          rw (stored.elsewhere d (file_listed image₁ ds d m) e) (rw t.2 at (clean₁ t.0 t.1))

      counted : (d : Descriptor) → Memᴰ d ds → collection_count (area_bytes image' d) ≡ 0
      counted d m =
          let k : Memᴰ d (map area_of ls) = rw (labelled_areas (longest_length ds) 0 ds) m in
          let t = mathlib.Core.List.Memᴰ.of_map area_of ls k in
          same_byte area_header_size (area_bytes image' d) (area_bytes image₁ d) (stored.headers d m) 21 (omega arith)
          ∙ ap (λ (x : Descriptor). collection_count (area_bytes image₁ x)) (sym t.2)
          ∙ ap collection_count (there₁ t.0 t.1)
          ∙ header_count t.0.area.length 0 t.0.id (erased (t.0.area.length - area_header_size))

      byte_after : (i : ℕ) → ((d : Descriptor) → Memᴰ d ds → ¬ InArea d i) → byte_at image' i ≡ byte_at image₁ i
      byte_after i n =
          let h = area_fits image ds checks.0 area (listed home.0 home_in) in
          byte_outside image₁ (free_place image₁ area) root_bytes (omega (arith, fits.room, h.1, long₁)) i
          (λ j f e. n area (listed home.0 home_in) (omega arith, omega (arith, fits.room)))

      byte_before : (i : ℕ) → ((d : Descriptor) → Memᴰ d ds → ¬ InArea d i) → byte_at image₁ i ≡ byte_at image i
      byte_before i n = blanked_byte ls image in_image i (λ l m. n l.area (listed l m))

pub format : (image : Bytes) (ds : List Descriptor) → format_number image ds ≡ 0 → AfterFormat image (image_formatted image ds) ds
unfolding image_formatted
format image ds e = rw (image_formatted, e) (after_format image ds e)
