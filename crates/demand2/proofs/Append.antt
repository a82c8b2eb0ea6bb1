-- Append. Demand 2: "After an append the file reads as its old contents and then the new data."
use Rattle.std.specs.Prelude.{ℕ, ◌+◌, ◌≤◌, ◌<◌, false, cond, not, ◌||◌, ltb}
use Rattle.std.proofs.Math.Path.{◌≡◌, refl}
use Rattle.std.proofs.Common.{sym, ap, ◌∙◌, arith, le→leb}
use Rattle.std.proofs.Math.Logic.{inl, inr, ⊎_elim}
use Rattle.std.proofs.Math.Option.{Option, none, some}
use mathlib.Core.List.{List, [], ◌∷◌, ◌++◌, map, append_assoc, Memᴰ}
use Rattle.std.proofs.Math.ListN.{length}
use Rattle.std.proofs.Math.Dec.{eqb, leb, nltb→le, leb→le}
use Rattle.format.specs.Bytes.{Bytes}
use Rattle.format.specs.Ids.{NONE, first_file_id, first_block_id, root_id, is_directory_id}
use Rattle.format.specs.Record.{record_size, record_id}
use Rattle.format_laws.specs.Crc.{Octets}
use Rattle.volume.specs.Lists.{only, keep}
use Rattle.volume.specs.View.{by_bytes}
use Rattle.volume.specs.Counting.{Volume, inode_of, block_of, block_ids}
use Rattle.volume.specs.Fate.{live, fate_of}
use Rattle.volume.specs.Contents.{chain_start, owns, owned, unnamed, last_block, file_blocks, text_of}
use Rattle.volume.specs.Path.{good_path, path_names}
use Rattle.volume.specs.Tree.{lookup_names}
use Rattle.volume_laws.specs.Tests.{T→true, not_T→false, not_is_false, or_is_false, has_some}
use Rattle.volume_laws.specs.Lists.{keep_mem}
use Rattle.volume_laws.proofs.Contents.{owned_owns}
use Rattle.volume_laws.specs.Counting.{counting_mem}
use Rattle.volume_laws.specs.Climb.{live_some}
use Rattle.calls.specs.Refusal.{first_refusal}
use Rattle.calls.specs.Areas.{file_areas}
use Rattle.calls.specs.Mount.{most_blocks, volume, mount_number}
use Rattle.calls.specs.Storing.{Store, spaces, place_all, store_all, no_place, named_ids}
use Rattle.calls.specs.Attempt.{Attempt, goes, refuses, number_of, leaves}
use Rattle.calls.specs.Append.{most_appended, cut_into, pieces_of, block_records, new_blocks, is_broken}
use Rattle.calls.specs.Append.{append_to, attempt_text, appending, append_image, append_of, image_appended}
use Rattle.calls.specs.declared.Descriptor.{Descriptor}
use Rattle.calls.specs.Read.{refused, give_blocks, give, read_given}
use Rattle.image_laws.specs.Stores.{joined_bytes}
use Rattle.calls_laws.specs.Checks.{Passes, passes, mounts}
use Rattle.calls_laws.specs.Records.{volume_sound}
use Rattle.calls_laws.specs.Attempt.{attempt_goes}
use Rattle.demand2.specs.Area.{Whole}
use Rattle.demand2.specs.Places.{Written}
use Rattle.demand2.proofs.Places.{areas_grown, place_found, all_placed, octets_written, written_areas, written_headers, written_clean}
use Rattle.demand2.proofs.Unused.{block_named, unnamed_unused, named_used, few_named}
use Rattle.demand2.proofs.Added.{same_inode, same_fate, same_lookup}
use Rattle.demand2.proofs.Mounted.{agreed_inodes}
use Rattle.demand2.specs.Found.{passed_check, lookup_refused, root_there, found_lives, resolved, resolve_alike, read_given_lem, read_kept}
use Rattle.demand2.specs.NewRecord.{IsBlock}
use Rattle.demand2.proofs.Cut.{pieces_joined, pieces_sized, pieces_good}
use Rattle.demand2.specs.Pieces.{Behind, nothing, a_block, most_names, Made}
use Rattle.demand2.proofs.Pieces.{made, made_each, made_texts, texts_joined, made_count, made_unnamed}
use Rattle.demand2.specs.Pieces.{BlocksName, Chained, last_id, Grown}
use Rattle.demand2.proofs.Pieces.{made_chain, chain_least, last_is, all_grown}
use Rattle.demand2.specs.Append.{TextGoes, AppendGoes, AfterAppend}

text_append : (bs cs : List Bytes) → text_of by_bytes (bs ++ cs) ≡ text_of by_bytes bs ++ text_of by_bytes cs
unfolding text_of
text_append [] cs = refl
text_append (b ∷ bs) cs =
    ap (λ (x : Bytes). by_bytes.text b ++ x) (text_append bs cs) ∙ sym (append_assoc (by_bytes.text b) (text_of by_bytes bs) (text_of by_bytes cs))

-- 0 bytes are no pieces
nothing_cut : (image : Bytes) (ds : List Descriptor) (f : ℕ) (text : Bytes) → text ≡ [] → new_blocks image ds f text ≡ []
unfolding new_blocks pieces_of cut_into block_records
nothing_cut image ds f [] e = refl
nothing_cut image ds f (b ∷ l) e = let z : ◌≡◌ {A = ℕ} 0 1 = cc in absurd (omega arith)

pub text_goes : (image : Bytes) (ds : List Descriptor) (base path text : Bytes) (checks : ℕ → ℕ)
    → number_of (attempt_text image ds base path text checks) ≡ 0 → TextGoes image ds base path text checks
text_goes image ds base path text checks e =
    let w = attempt_goes (mount_number image ds) checks (not (good_path base path) || ltb most_appended (length text))
    (lookup_names by_bytes (volume image ds) (path_names base path)) (lookup_refused by_bytes (volume image ds) (path_names base path)) e in
    record {
      mounted = w.mounted;
      good = not_is_false (good_path base path) (or_is_false (not (good_path base path)) (ltb most_appended (length text)) w.good).0;
      file = w.inode;
      found_there = w.found_there;
      checked = w.checked;
      goes_on = w.goes_on;
    }

-- a file that passes check 13 has its blocks
pub not_broken : (o : Option (List Bytes)) → is_broken o ≡ false → (l : List Bytes) × (o ≡ some l)
not_broken none z = let y : ◌≡◌ {A = ℕ} 0 1 = cc in absurd (omega arith)
not_broken (some l) z = (l, refl)

module _ (image : Bytes) (ds : List Descriptor) (base path text : Bytes) where
  abbrev before : Volume Bytes
  before = volume image ds

  abbrev placing : ℕ → Option (List Store)
  placing f = place_all (spaces image (file_areas image ds)) (new_blocks image ds f text)

  -- the checks of `append_to`
  checked : (f : ℕ) → append_to image ds f text ≡ 0
      → (is_directory_id f ≡ false) × (length (block_ids by_bytes before) + length (new_blocks image ds f text) ≤ most_blocks)
      × ((old : List Bytes) × (file_blocks by_bytes before f ≡ some old)) × ((l : List Store) × (placing f ≡ some l))
  unfolding append_to first_refusal
  checked f e =
      let a = passed_check (is_directory_id f) 10 _ e in
      let b = passed_check (is_broken (file_blocks by_bytes before f)) 12 _ a.1 in
      let c = passed_check (ltb most_blocks (length (block_ids by_bytes before) + length (new_blocks image ds f text))) 4 _ b.1 in
      let d = passed_check (no_place (placing f)) 14 0 c.1 in (
        a.0,
        nltb→le most_blocks (length (block_ids by_bytes before) + length (new_blocks image ds f text)) (rw c.0 tt),
        not_broken (file_blocks by_bytes before f) b.0,
        place_found (placing f) d.0,
      )

  pub append_goes : append_of image ds base path text ≡ 0 → AppendGoes image ds base path text
  unfolding append_of appending
  append_goes e =
      let w = text_goes image ds base path text (λ f. append_to image ds f text) e in
      let c = checked w.file w.checked in
      record {
        mounted = w.mounted;
        good = w.good;
        file = w.file;
        found_there = w.found_there;
        no_directory = c.0;
        old = c.2.0;
        not_broken = c.2.1;
        few = c.1;
        stores = c.3.0;
        placed = c.3.1;
        goes = w.goes_on;
      }

-- ---- the theorem

module _ (image : Bytes) (ds : List Descriptor) (base path text : Bytes) (octets_text : Octets text) (g : AppendGoes image ds base path text) where
  p : Passes image ds
  p = passes image ds g.mounted

  abbrev v : Volume Bytes
  v = volume image ds

  abbrev f : ℕ
  f = g.file

  abbrev pieces : List Bytes
  pieces = pieces_of (file_areas image ds) text

  abbrev image' : Bytes
  image' = image_appended image ds base path text

  root : (r : Bytes) × (inode_of by_bytes v root_id ≡ some r)
  root = root_there v p.root

  lives : fate_of by_bytes v f ≡ live
  lives = found_lives by_bytes v root.0 root.1 (path_names base path) f g.found_there

  -- a live inode that is no directory is a file
  file_id : (first_file_id ≤ f) × (f < first_block_id)
  unfolding is_directory_id
  file_id =
      let r = live_some by_bytes v f lives in
      let m = counting_mem by_bytes v.inodes f r.0 r.1 in
      (nltb→le f first_file_id (rw g.no_directory tt), rw m.1 at ((volume_sound image ds).inode_id r.0 m.0))

  -- the file's last block
  last : (e : ℕ) × (last_block by_bytes v f ≡ some e)
  unfolding file_blocks
  last = go (last_block by_bytes v f) refl g.not_broken
    where
      go : (o : Option ℕ) → last_block by_bytes v f ≡ o → file_blocks by_bytes v f ≡ some g.old → (e : ℕ) × (last_block by_bytes v f ≡ some e)
      go none q z = let y : ◌≡◌ {A = Option (List Bytes)} none (some g.old) = rw (file_blocks, q) at z in let w : ◌≡◌ {A = ℕ} 0 1 = cc in absurd
          (omega arith)
      go (some e) q z = (e, q)

  named : BlocksName v (named_ids v)
  named r m = let h = block_named v r m in (h.0, inr h.1)

  behind : Behind (named_ids v) last.0
  unfolding last_block only owns
  behind = go (keep (unnamed by_bytes (block_of by_bytes v) (owned by_bytes v f)) (owned by_bytes v f)) (λ y m. (keep_mem _ (owned by_bytes v f) m).0)
      last.1
    where
      go : (es : List ℕ) → ((y : ℕ) → Memᴰ y es → Memᴰ y (owned by_bytes v f)) → chain_start (only es) ≡ some last.0
          → Behind (named_ids v) last.0
      go [] h e = let z : NONE ≡ last.0 = cc in nothing (sym z)
      go (x ∷ []) h e =
          let z : x ≡ last.0 = cc in
          let s = has_some (λ r. eqb (by_bytes.owner r) f) (block_of by_bytes v x) (owned_owns by_bytes v f x (h x (Memᴰ.head refl))) in
          let m = counting_mem by_bytes v.blocks x s.0 s.1 in
          let k = (volume_sound image ds).block_id s.0 m.0 in
          let q : record_id s.0 ≡ last.0 = m.1 ∙ z in
          a_block (rw q at k.0) (rw q at k.1) (rw q at (block_named v s.0 m.0).0)
      go (x ∷ y ∷ es) h e = let z : ◌≡◌ {A = ℕ} 0 1 = cc in absurd (omega arith)

  records_are : new_blocks image ds f text ≡ block_records (named_ids v) f last.0 pieces
  unfolding new_blocks
  records_are = rw last.1

  counted : length (new_blocks image ds f text) ≡ length pieces
  counted = ap length records_are ∙ made_count pieces (named_ids v) f last.0

  names_few : length (named_ids v) + length pieces ≤ most_names
  names_few = omega (arith, few_named image ds p.described, counted, g.few)

  all_made : Made (named_ids v) f last.0 pieces
  all_made = made f file_id pieces (named_ids v) last.0 names_few behind (pieces_good image ds p text octets_text)

  -- what holds of a block as it was meant holds of each
  each : (P : Bytes → Type 0) → ((b : Bytes) (id previous : ℕ) (t : Bytes) → IsBlock b id 0 f previous t → P b)
      → (b : Bytes) → Memᴰ b (new_blocks image ds f text) → P b
  each P h b m = made_each P f h pieces (named_ids v) last.0 all_made b (rw records_are at m)

  all_went : Written ds image (new_blocks image ds f text) image'
  unfolding image_appended
  all_went = rw (image_appended, g.goes, g.placed) (all_placed ds image (new_blocks image ds f text) g.stores p.described
      (each (Whole record_size) (λ b id previous t k. k.whole)) g.placed)

  grown : Grown image image' ds f (new_blocks image ds f text)
  grown = rw records_are (all_grown ds f pieces image image' (named_ids v) last.0 p named behind last.1 names_few
      (omega (arith, counted, g.few)) all_made (rw records_are at all_went))

  all_chained : Chained f (named_ids v) (last_id g.old) (new_blocks image ds f text)
  all_chained = rw (records_are, ← last_is v f last.0 g.old last.1 g.not_broken)
      (made_chain pieces (named_ids v) f last.0 all_made)

  new_texts : map by_bytes.text (new_blocks image ds f text) ≡ pieces
  new_texts = ap (map by_bytes.text) records_are ∙ made_texts pieces (named_ids v) f last.0 all_made

  new_text : text_of by_bytes (new_blocks image ds f text) ≡ text
  new_text = texts_joined (new_blocks image ds f text) ∙ ap joined_bytes new_texts ∙ pieces_joined image ds p text

  both : text_of by_bytes (g.old ++ new_blocks image ds f text) ≡ text_of by_bytes g.old ++ text
  both = text_append g.old (new_blocks image ds f text) ∙ ap (λ (x : Bytes). text_of by_bytes g.old ++ x) new_text

  still_mounts : mount_number image' ds ≡ 0
  still_mounts = mounts image' ds grown.passes

  new_fates : (i : ℕ) → fate_of by_bytes (volume image' ds) i ≡ fate_of by_bytes v i
  new_fates = same_fate by_bytes v (volume image' ds) grown.same_inodes (agreed_inodes image ds p)

  -- a read of the file
  file_given_lem : (position room : ℕ) → read_given image' ds f position room
      ≡ cond (leb position (length (text_of by_bytes g.old ++ text))) (give_blocks (g.old ++ new_blocks image ds f text) position room) (refused 14)
  unfolding give
  file_given_lem position room =
      read_given_lem image' ds still_mounts f position room
      ∙ rw (give, new_fates f, lives, g.no_directory, grown.contents g.old g.not_broken, both)

  after_append : AfterAppend image image' ds base path text
  unfolding give_blocks
  after_append = record {
    mounts = still_mounts;
    file = f;
    found_at_path = resolved image ds base path g.mounted ∙ rw g.good g.found_there;
    old = g.old;
    whole_before = g.not_broken;
    whole_after = grown.contents g.old g.not_broken;
    text_after_lem = both;
    reads_both = λ position room h.
        file_given_lem position room ∙ rw (T→true {b = leb position (length (text_of by_bytes g.old ++ text))} (le→leb position _ h), give_blocks, both);
    reads_none = λ position room h. file_given_lem position room
        ∙ rw (not_T→false {b = leb position (length (text_of by_bytes g.old ++ text))} (λ t. let l = leb→le position _ t in omega arith));
    paths = λ b q. resolve_alike image image' ds b q g.mounted still_mounts
        (λ e. same_lookup by_bytes v (volume image' ds) grown.same_inodes (agreed_inodes image ds p) (path_names b q));
    reads = λ i n. read_kept image image' ds g.mounted still_mounts i (new_fates i) (grown.other_files i n);
    inodes = same_inode by_bytes v (volume image' ds) grown.same_inodes (agreed_inodes image ds p);
    fates = new_fates;
    contents = grown.other_files;
    unused = λ b m. unnamed_unused v (record_id b) (made_unnamed pieces (named_ids v) f last.0 all_made b (rw records_are at m));
    least = λ before behind b e j h k. ⊎_elim (λ m. inl (named_used v j m)) inr (chain_least before behind b (rw e at all_chained) j h k);
    chained = all_chained;
    sizes = rw new_texts (pieces_sized image ds p text);
    no_pieces = nothing_cut image ds f text;
    went = all_went;
    areas = areas_grown ds p.described all_went;
    same_areas = written_areas ds p.described all_went;
    headers = written_headers ds p.described all_went;
    clean_after = written_clean ds p.described all_went;
    octets = octets_written all_went (each Octets (λ b id previous t k. k.octets));
  }

pub append : (image : Bytes) (ds : List Descriptor) (base path text : Bytes) → Octets text → append_of image ds base path text ≡ 0
    → AfterAppend image (image_appended image ds base path text) ds base path text
append image ds base path text o e = after_append image ds base path text o (append_goes image ds base path text e)

-- "0 bytes write nothing"
pub append_nothing : (image : Bytes) (ds : List Descriptor) (base path : Bytes) → image_appended image ds base path [] ≡ image
unfolding image_appended new_blocks pieces_of cut_into block_records place_all store_all
append_nothing image ds base path = go (appending image ds base path [])
  where
    go : (a : Attempt ℕ) → leaves image (append_image image ds []) a ≡ image
    go (goes f) = refl
    go (refuses r) = refl
