-- Several blocks stored for a file, each naming the one before.
use Rattle.std.specs.Prelude.{ℕ, zero, suc, ◌+◌, ◌^◌, ◌≤◌, ◌<◌, ◌≡◌, refl, ◌≢◌, ◌⊎◌, Bool, true, false, cond, length, eqb}
use Rattle.std.proofs.Common.{sym, ap, ◌∙◌, inl, inr, ⊎_elim, arith, lt→ltb, le→leb, eqb-true}
use Rattle.std.proofs.Math.Option.{Option, none, some}
use mathlib.Core.List.Memᴰ
use mathlib.Core.List.{List, [], ◌∷◌, ◌++◌, map, append-nil, append_assoc, Memᴰ}
use Rattle.std.proofs.Math.Dec.{ltb, leb}
use Rattle.format.specs.Bytes.{Bytes}
use Rattle.format.specs.Ids.{NONE, first_file_id, first_block_id, is_file_id, is_block_id}
use Rattle.format.specs.Record.{record_id, record_sequence, block_previous, block_rule, previous_rule, longest_data}
use Rattle.format.specs.Encoding.{block_bytes}
use Rattle.format_laws.specs.Encoding.{MeantBlock}
use Rattle.volume.specs.View.{by_bytes}
use Rattle.volume.specs.Lists.{bind}
use Rattle.volume.specs.Counting.{Volume, block_of, block_ids}
use Rattle.volume.specs.Contents.{snoc, owns, owned, last_block, chain_back, file_blocks, text_of}
use Rattle.volume_laws.specs.Tests.{T→true, eqb_differ}
use Rattle.volume_laws.specs.Counting.{counting_mem}
use Rattle.calls.specs.Image.{put}
use Rattle.calls.specs.Mount.{accepted_records, most_blocks, volume}
use Rattle.calls.specs.Append.{block_records}
use Rattle.image_laws.specs.Stores.{joined_bytes}
use Rattle.calls.specs.declared.Descriptor.{Descriptor}
use Rattle.calls_laws.specs.Checks.{Passes}
use Rattle.calls_laws.specs.Records.{volume_sound}
use Rattle.demand2.specs.Store.{free_place, RecordFits, OneStored}
use Rattle.demand2.proofs.Store.{one_stored}
use Rattle.demand2.specs.Places.{Written, written, all_written}
use Rattle.calls_laws.specs.Unused.{Smallest, unused_smallest}
use Rattle.demand2.specs.Added.{Same, Added}
use Rattle.demand2.proofs.Added.{added_ids, same_count}
use Rattle.demand2.proofs.Mounted.{agreed_blocks, agreed_inodes, accepted_kind, few_ids, ids_few, blocks_added, inodes_same, still_passes}
use Rattle.demand2.specs.NewRecord.{IsBlock}
use Rattle.demand2.proofs.NewRecord.{block_made}
use Rattle.demand2.proofs.NewBlock.{other_blocks, new_last, new_blocks_lem}
use Rattle.demand2.specs.Cut.{GoodPiece}
use Rattle.demand2.specs.Pieces.{Behind, nothing, a_block, most_names, next, Made, Chained, chain_end, chain_on, last_id, WrittenFirst, BlocksName, Grown}

-- ---- the records

previous_rule_lem : (id previous : ℕ) → (previous ≡ NONE) ⊎ ((first_block_id ≤ previous) × (previous < NONE) × (previous ≢ id))
    → previous_rule id previous ≡ true
unfolding previous_rule is_block_id
previous_rule_lem id previous (inl e) = rw e
previous_rule_lem id previous (inr h) = rw (
  eqb_differ previous NONE (λ e. omega (arith, h.1)),
  eqb_differ previous id h.2,
  T→true {b = leb first_block_id previous} (le→leb first_block_id previous h.0),
  T→true {b = ltb previous NONE} (lt→ltb previous NONE h.1),
)

module _ (f : ℕ) (file : (first_file_id ≤ f) × (f < first_block_id)) where
  meant : (names : List ℕ) (previous : ℕ) (p : Bytes) → length names ≤ most_names → Behind names previous → GoodPiece p
      → MeantBlock (next names) 0 f previous p
  unfolding block_rule is_block_id is_file_id
  meant names previous p few behind g = record {
    id_fits = omega (arith, s.near);
    sequence_fits = omega arith;
    owner_fits = omega (arith, file.1);
    previous_fits = previous_low behind;
    text_fits = omega (arith, g.fits);
    rule = rw (
      T→true {b = leb first_block_id (next names)} (le→leb first_block_id (next names) s.from),
      T→true {b = ltb (next names) NONE} (lt→ltb (next names) NONE (omega (arith, s.near))),
      T→true {b = leb first_file_id f} (le→leb first_file_id f file.0),
      T→true {b = ltb f first_block_id} (lt→ltb f first_block_id file.1),
      previous_right behind,
      T→true {b = ltb 0 (length p)} (lt→ltb 0 (length p) g.some_bytes),
      T→true {b = leb (length p) longest_data} (le→leb (length p) longest_data g.fits),
    );
    octets = g.octets;
  }
    where
      s : Smallest first_block_id names (next names)
      s = unused_smallest first_block_id names

      previous_low : Behind names previous → previous < 2 ^ 32
      previous_low (nothing e) = omega arith
      previous_low (a_block l h m) = omega arith

      previous_right : Behind names previous → previous_rule (next names) previous ≡ true
      previous_right b = previous_rule_lem (next names) previous (kind b)
        where
          kind : Behind names previous → (previous ≡ NONE) ⊎ ((first_block_id ≤ previous) × (previous < NONE) × (previous ≢ next names))
          kind (nothing e) = inl e
          kind (a_block l h m) = inr (l, h, λ e. s.unused (Memᴰ.cast (sym e) m))

  pub made : (ps : List Bytes) (names : List ℕ) (previous : ℕ) → length names + length ps ≤ most_names → Behind names previous
      → ((p : Bytes) → Memᴰ p ps → GoodPiece p) → Made names f previous ps
  made [] names previous few behind g = tt
  made (p ∷ ps) names previous few behind g =
      let m = meant names previous p (omega arith) behind (g p (Memᴰ.head refl)) in
      let s = unused_smallest first_block_id names in (
        block_made (next names) 0 f previous p m,
        made ps (next names ∷ names) (next names) (omega arith)
            (a_block s.from (omega (arith, s.near)) (Memᴰ.head refl)) (λ q k. g q (Memᴰ.tail k)),
      )

pub made_chain : (ps : List Bytes) (names : List ℕ) (f previous : ℕ) → Made names f previous ps
    → Chained f names previous (block_records names f previous ps)
unfolding block_records
made_chain [] names f previous m = chain_end
made_chain (p ∷ ps) names f previous m = on (block_records (next names ∷ names) f (next names) ps) (block_bytes (next names) 0 f previous p) m.0
    (made_chain ps (next names ∷ names) f (next names) m.1)
  where
    on : (bs : List Bytes) (b : Bytes) → IsBlock b (next names) 0 f previous p → Chained f (next names ∷ names) (next names) bs
        → Chained f names previous (b ∷ bs)
    on bs b m ih = chain_on {names = names} {previous = previous} {b = b} {bs = bs}
        (record {
          sequence = m.sequence_is;
          smallest = rw m.id_is (unused_smallest first_block_id names);
          of_file = m.owner_is;
          names_before_lem = m.previous_is;
        })
        (rw m.id_is ih)

-- every smaller id is named, or was taken by one before
pub chain_least : (before behind : List Bytes) (b : Bytes) {f previous : ℕ} {names : List ℕ} → Chained f names previous (before ++ (b ∷ behind))
    → (j : ℕ) → first_block_id ≤ j → j < record_id b → Memᴰ j names ⊎ ((c : Bytes) × Memᴰ c before × (record_id c ≡ j))
chain_least [] behind b (chain_on n c) j h k = inl (n.smallest.smallest j h k)
chain_least (a ∷ before) behind b (chain_on n c) j h k = ⊎_elim
    (λ m. ⊎_elim (λ e. inr (a, Memᴰ.head refl, sym e)) inl (Memᴰ.cases_cons m))
    (λ t. inr (t.0, Memᴰ.tail t.1, t.2))
    (chain_least before behind b c j h k)

last_behind : (bs : List Bytes) (b : Bytes) → last_id (bs ++ (b ∷ [])) ≡ record_id b
last_behind [] b = refl
last_behind (a ∷ []) b = refl
last_behind (a ∷ c ∷ bs) b = last_behind (c ∷ bs) b

-- a chain that is followed back from i ends at i
chain_last : (v : Volume Bytes) (f k i : ℕ) (bs : List Bytes) → chain_back by_bytes (block_of by_bytes v) f k i ≡ some bs → i ≡ last_id bs
unfolding chain_back
chain_last v f zero i bs e = go (eqb i NONE) refl e
  where
    go : (b : Bool) → eqb i NONE ≡ b → cond b (some []) none ≡ some bs → i ≡ last_id bs
    go true q z = let y : [] ≡ bs = cc in rw (← y) (eqb-true i NONE q)
    go false q z = let y : ◌≡◌ {A = ℕ} 0 1 = cc in absurd (omega arith)
chain_last v f (suc k) i bs e = go (owns by_bytes (block_of by_bytes v) f i) (block_of by_bytes v i) refl e
  where
    at_end : (r : Bytes) → record_id r ≡ i → (o : Option (List Bytes)) → snoc o r ≡ some bs → i ≡ last_id bs
    at_end r q none z = let y : ◌≡◌ {A = ℕ} 0 1 = cc in absurd (omega arith)
    at_end r q (some l) z = let y : l ++ (r ∷ []) ≡ bs = cc in rw (← y) (sym (last_behind l r ∙ q))

    go : (b : Bool) (o : Option Bytes) → block_of by_bytes v i ≡ o
        → cond b (bind o (λ r. snoc (chain_back by_bytes (block_of by_bytes v) f k (by_bytes.previous r)) r)) none ≡ some bs → i ≡ last_id bs
    go true none q z = let y : ◌≡◌ {A = ℕ} 0 1 = cc in absurd (omega arith)
    go true (some r) q z = at_end r (counting_mem by_bytes v.blocks i r q).1 (chain_back by_bytes (block_of by_bytes v) f k (by_bytes.previous r)) z
    go false o q z = let y : ◌≡◌ {A = ℕ} 0 1 = cc in absurd (omega arith)

pub last_is : (v : Volume Bytes) (f e : ℕ) (bs : List Bytes) → last_block by_bytes v f ≡ some e → file_blocks by_bytes v f ≡ some bs → e ≡ last_id bs
unfolding file_blocks
last_is v f e bs l q = chain_last v f (length (owned by_bytes v f)) e bs (rw (file_blocks, l) at q)

-- what holds of such a block holds of each
pub made_each : (P : Bytes → Type 0) (f : ℕ) → ((b : Bytes) (id previous : ℕ) (p : Bytes) → IsBlock b id 0 f previous p → P b)
    → (ps : List Bytes) (names : List ℕ) (previous : ℕ) → Made names f previous ps
    → (b : Bytes) → Memᴰ b (block_records names f previous ps) → P b
unfolding block_records
made_each P f h [] names previous m b k = absurd (Memᴰ.not-nil k)
made_each P f h (p ∷ ps) names previous m b k =
    ⊎_elim (λ e. rw e (h _ _ _ _ m.0)) (λ k. made_each P f h ps (next names ∷ names) (next names) m.1 b k) (Memᴰ.cases_cons k)

-- their data are the pieces
pub made_texts : (ps : List Bytes) (names : List ℕ) (f previous : ℕ) → Made names f previous ps
    → map by_bytes.text (block_records names f previous ps) ≡ ps
unfolding block_records
made_texts [] names f previous m = refl
made_texts (p ∷ ps) names f previous m = rw (m.0.text_is, made_texts ps (next names ∷ names) f (next names) m.1)

pub texts_joined : (bs : List Bytes) → text_of by_bytes bs ≡ joined_bytes (map by_bytes.text bs)
unfolding text_of joined_bytes
texts_joined [] = refl
texts_joined (b ∷ bs) = ap (λ (x : Bytes). by_bytes.text b ++ x) (texts_joined bs)

pub made_count : (ps : List Bytes) (names : List ℕ) (f previous : ℕ) → length (block_records names f previous ps) ≡ length ps
unfolding block_records
made_count [] names f previous = refl
made_count (p ∷ ps) names f previous = ap suc (made_count ps (next names ∷ names) f (next names))

-- no id among those named is taken
pub made_unnamed : (ps : List Bytes) (names : List ℕ) (f previous : ℕ) → Made names f previous ps
    → (b : Bytes) → Memᴰ b (block_records names f previous ps) → ¬ Memᴰ (record_id b) names
unfolding block_records
made_unnamed [] names f previous m b k n = Memᴰ.not-nil k
made_unnamed (p ∷ ps) names f previous m b k n =
    ⊎_elim (λ e. (unused_smallest first_block_id names).unused (Memᴰ.cast (sym (ap record_id e ∙ m.0.id_is)) n))
    (λ k. made_unnamed ps (next names ∷ names) f (next names) m.1 b k (Memᴰ.tail n)) (Memᴰ.cases_cons k)

-- ---- stored one after the other

pub written_first : {ds : List Descriptor} {image image' b : Bytes} {bs : List Bytes} → Written ds image (b ∷ bs) image'
    → WrittenFirst ds image b bs image'
written_first (written area f t w r) = record { area = area; fits = f; rest = r }

pub written_none : {ds : List Descriptor} {image image' : Bytes} → Written ds image [] image' → image' ≡ image
written_none all_written = refl

-- one of them stored, and what the next one finds
record OneMore (image image' : Bytes) (ds : List Descriptor) (f : ℕ) (names : List ℕ) (b : Bytes) : Type 0 where
  pub grown : Grown image image' ds f (b ∷ [])
  pub last_now : last_block by_bytes (volume image' ds) f ≡ some (next names)
  pub named_now : BlocksName (volume image' ds) (next names ∷ names)
  pub count : length (block_ids by_bytes (volume image' ds)) ≤ suc (length (block_ids by_bytes (volume image ds)))

-- one block of the file f, whose id is not among names
module _ (image : Bytes) (ds : List Descriptor) (p : Passes image ds) (f : ℕ) (names : List ℕ) (previous : ℕ) (text : Bytes)
    (named : BlocksName (volume image ds) names) (behind : Behind names previous) (end : last_block by_bytes (volume image ds) f ≡ some previous)
    (few : length names ≤ most_names) (room : suc (length (block_ids by_bytes (volume image ds))) ≤ most_blocks)
    (m : IsBlock (block_bytes (next names) 0 f previous text) (next names) 0 f previous text)
    (area : Descriptor) (fits : RecordFits image ds area (block_bytes (next names) 0 f previous text)) where
  abbrev b : Bytes
  b = block_bytes (next names) 0 f previous text

  abbrev image' : Bytes
  image' = put image (free_place image area) b

  s : Smallest first_block_id names (next names)
  s = unused_smallest first_block_id names

  stored : OneStored image image' ds area b
  stored = one_stored image ds p.described area b fits m.whole

  no_id : (r : Bytes) → Memᴰ r (volume image ds).blocks → record_id r ≢ record_id b
  no_id r k e = s.unused (Memᴰ.cast (sym (e ∙ m.id_is)) (named r k).0)

  no_previous : (r : Bytes) → Memᴰ r (volume image ds).blocks → block_previous r ≢ record_id b
  no_previous r k e = ⊎_elim (λ z. omega (arith, m.id_is, e, z, s.near)) (λ n. s.unused (Memᴰ.cast (sym (e ∙ m.id_is)) n)) (named r k).1

  other : by_bytes.previous b ≢ record_id b
  other e = go behind
    where
      go : Behind names previous → ⊥
      go (nothing z) = omega (arith, m.id_is, m.previous_is, s.near, e)
      go (a_block l h n) = s.unused (Memᴰ.cast (sym (sym m.previous_is ∙ e ∙ m.id_is)) n)

  unborn : (r : Bytes) → Memᴰ r (accepted_records image ds) → record_id r ≡ record_id b → record_sequence r < record_sequence b
  unborn r k e = absurd (⊎_elim
      (λ i. omega (arith, (volume_sound image ds).inode_id r i, e, m.id_is, s.from)) (λ i. no_id r i e) (accepted_kind image ds r k))

  added : Added by_bytes (volume image ds).blocks (volume image' ds).blocks b
  added = blocks_added stored fits.file unborn m.is_block

  same_inodes : Same (volume image ds).inodes (volume image' ds).inodes
  same_inodes = inodes_same stored fits.file unborn m.is_block

  count : length (block_ids by_bytes (volume image' ds)) ≤ suc (length (block_ids by_bytes (volume image ds)))
  count = added_ids by_bytes (volume image ds).blocks (volume image' ds).blocks b added (agreed_blocks image ds p)

  still : Passes image' ds
  still = still_passes stored fits.file unborn p (few_ids (volume image' ds)
      (omega (
        arith,
        same_count by_bytes (volume image ds).inodes (volume image' ds).inodes same_inodes (agreed_inodes image ds p),
        (ids_few
            (volume image ds) p.few).0,
      ))
      (omega (arith, count)))

  at_end : last_block by_bytes (volume image ds) f ≡ some (by_bytes.previous b)
  at_end = end ∙ ap some (sym m.previous_is)

  last_now : last_block by_bytes (volume image' ds) f ≡ some (next names)
  last_now =
      new_last by_bytes (volume image ds) (volume image' ds) b added (agreed_blocks image ds p) no_id no_previous f m.owner_is other at_end
      ∙ ap some m.id_is

  named_now : BlocksName (volume image' ds) (next names ∷ names)
  named_now r k = ⊎_elim new old (added.only r k)
    where
      new : r ≡ b → Memᴰ (record_id r) (next names ∷ names) × ((block_previous r ≡ NONE) ⊎ Memᴰ (block_previous r) (next names ∷ names))
      new e = (Memᴰ.head (ap record_id e ∙ m.id_is), was behind)
        where
          was : Behind names previous → (block_previous r ≡ NONE) ⊎ Memᴰ (block_previous r) (next names ∷ names)
          was (nothing z) = inl (ap block_previous e ∙ m.previous_is ∙ z)
          was (a_block l h n) = inr (Memᴰ.tail (Memᴰ.cast (ap block_previous e ∙ m.previous_is) n))

      old : Memᴰ r (volume image ds).blocks
          → Memᴰ (record_id r) (next names ∷ names) × ((block_previous r ≡ NONE) ⊎ Memᴰ (block_previous r) (next names ∷ names))
      old n = let h = named r n in (Memᴰ.tail h.0, ⊎_elim inl (λ z. inr (Memᴰ.tail z)) h.1)

  one_grown : Grown image image' ds f (b ∷ [])
  one_grown = record {
    passes = still;
    same_inodes = same_inodes;
    contents = new_blocks_lem by_bytes (volume image ds) (volume image' ds) b added (agreed_blocks image ds p) no_id no_previous f m.owner_is other
        at_end;
    other_files = λ g n. other_blocks by_bytes (volume image ds) (volume image' ds) b added (agreed_blocks image ds p) no_id no_previous g
        (λ e. n (sym e ∙ m.owner_is));
  }

  one_more : OneMore image image' ds f names b
  one_more = record { grown = one_grown; last_now = last_now; named_now = named_now; count = count }

grown_on : {image image' image'' : Bytes} {ds : List Descriptor} {f : ℕ} {b : Bytes} {bs : List Bytes}
    → Grown image image' ds f (b ∷ []) → Grown image' image'' ds f bs → Grown image image'' ds f (b ∷ bs)
grown_on {b} {bs} g h = record {
  passes = h.passes;
  same_inodes = record { to = λ r m. h.same_inodes.to r (g.same_inodes.to r m); back = λ r m. g.same_inodes.back r (h.same_inodes.back r m) };
  contents = λ old e. h.contents (old ++ (b ∷ [])) (g.contents old e) ∙ ap some (append_assoc old (b ∷ []) bs);
  other_files = λ i n. h.other_files i n ∙ g.other_files i n;
}

-- the records of the pieces, all stored
pub all_grown : (ds : List Descriptor) (f : ℕ) (ps : List Bytes) (image image' : Bytes) (names : List ℕ) (previous : ℕ) → Passes image ds
    → BlocksName (volume image ds) names → Behind names previous → last_block by_bytes (volume image ds) f ≡ some previous
    → length names + length ps ≤ most_names → length (block_ids by_bytes (volume image ds)) + length ps ≤ most_blocks
    → Made names f previous ps → Written ds image (block_records names f previous ps) image'
    → Grown image image' ds f (block_records names f previous ps)
unfolding block_records
all_grown ds f [] image image' names previous p named behind end few room m w = rw (written_none w) (record {
  passes = p;
  same_inodes = record { to = λ r k. k; back = λ r k. k };
  contents = λ old e. e ∙ ap some (sym (append-nil old));
  other_files = λ g n. refl;
})
all_grown ds f (t ∷ ps) image image' names previous p named behind end few room m w =
    let o = written_first w in
    let m₁ = one_more image ds p f names previous t named behind end (omega arith) (omega arith) m.0 o.area o.fits in
    let s = unused_smallest first_block_id names in
    let c = m₁.count in
    grown_on m₁.grown (all_grown ds f ps (put image (free_place image o.area) (block_bytes (next names) 0 f previous t)) image'
    (next names ∷ names) (next names) m₁.grown.passes m₁.named_now
    (a_block s.from (omega (arith, s.near)) (Memᴰ.head refl)) m₁.last_now (omega arith) (omega arith) m.1 o.rest)
