-- How long the text is at most: by the lengths of names and data, and the number of inodes and blocks.
use Rattle.std.specs.Prelude.{ℕ, zero, suc, ◌+◌, ◌*◌, ◌/◌, ◌%◌, ◌≤◌, ◌<◌, ◌≡◌, Bool, true, false, cond, ◌&&◌, replicate, eqb, ltb, leb}
use Rattle.std.proofs.Math.Path.{refl}
use Rattle.std.proofs.Common.{sym, length-drop, eqb→eq, leb→le, T_not, ltb-false}
use Rattle.std.proofs.Math.Bool.{not}
use Rattle.std.proofs.Math.Option.{Option, none, some}
use mathlib.Core.List.Memᴰ
use mathlib.Core.List.{List, [], ◌∷◌, ◌++◌, map, Memᴰ}
use native.Mathlib.Omega.{arith}
use Rattle.std.proofs.Math.ListN.{length, drop, length-append, length-replicate}
use Rattle.std.proofs.lemmas.List.{length-map}
use Rattle.std.proofs.Math.Dec.{T}
use Rattle.format.specs.Bytes.{Bytes, le32}
use Rattle.format.specs.Ids.{root_id, is_directory_id, is_block_id, is_file_id}
use Rattle.format.specs.Record.{inode, block, record_size, record_id, record_link, block_previous, data_length, longest_data, previous_rule, block_rule, block_rules}
use Rattle.format.specs.AreaHeader.{area_header_size}
use Rattle.format_laws.specs.Crc.{Octets}
use Rattle.format_laws.specs.Octets.{octet_at, octets_take, octets_drop}
use Rattle.format_laws.specs.Record.{Stands, an_inode, a_block, nothing, stands, kind_magic, inode_lawful, block_lawful}
use Rattle.format_laws.specs.Reading.{records_lawful}
use Rattle.format_laws.specs.Taken.{records_from_lem, from_each}
use Rattle.volume.specs.Lists.{keep, joined}
use Rattle.volume.specs.View.{by_bytes}
use Rattle.volume.specs.Counting.{Volume, volume_of, inode_of, inode_ids, block_ids}
use Rattle.volume.specs.Fate.{live, fate_of}
use Rattle.volume.specs.Contents.{file_blocks, text_of}
use Rattle.volume.specs.Listing.{Line, shown, deeper, digit, digits_within, decimal, printed, line_of, name_of, size_word, words_of, line_text, tree_text}
use Rattle.volume_laws.specs.Tests.{and_T}
use Rattle.volume_laws.specs.Lists.{keep_mem}
use Rattle.volume_laws.specs.Once.{pigeons}
use Rattle.volume_laws.specs.Counting.{counting_mem, ids_of_lem}
use Rattle.volume_laws.proofs.Chain.{file_blocks_lem}
use Rattle.volume_laws.specs.Sound.{Sound, acceptable_block}
use Rattle.volume_laws.specs.Listing.{ids_shown, tree_few}
use Rattle.calls.specs.Areas.{area_bytes, file_areas}
use Rattle.calls.specs.Mount.{accepted_records, volume}
use Rattle.calls.specs.declared.Descriptor.{Descriptor}
use Rattle.calls_laws.specs.Records.{stored, records_whole, records_accepted}
use Rattle.tree_told.specs.Words.{lines_of}
use Rattle.tree_told.specs.Deeper.{is_deeper}
use Rattle.tree_told.proofs.Deeper.{deeper_few}
use Rattle.tree_told.specs.Shown.{line_lives}
use Rattle.tree_told.specs.Size.{tens}

-- ---- numbers

digits_few : (k m n : ℕ) → n < tens m → length (digits_within k n) ≤ suc m
unfolding digits_within tens
digits_few zero m n h = omega arith
digits_few (suc k) zero n h = go (ltb n 10) refl
  where
    go : (b : Bool) → ltb n 10 ≡ b → length (cond b (digit n) (digits_within k (n / 10) ++ digit (n % 10))) ≤ 1
    go true e = omega arith
    go false e = absurd (omega (arith, ltb-false n 10 e))
digits_few (suc k) (suc m) n h = go (ltb n 10) (digits_few k m (n / 10) (omega arith))
  where
    go : (b : Bool) → length (digits_within k (n / 10)) ≤ suc m
        → length (cond b (digit n) (digits_within k (n / 10) ++ digit (n % 10))) ≤ suc (suc m)
    go true h = omega arith
    go false h = omega (arith, length-append (digits_within k (n / 10)) (digit (n % 10)))

decimal_short : (n : ℕ) → n < 10000000 → length (decimal n) ≤ 7
unfolding decimal tens
decimal_short n h = digits_few (suc n) 6 n h

-- ---- records

not_both : (b : Bytes) → le32 b 0 ≡ inode.magic → ¬ T (by_bytes.is_block b)
not_both b e t = omega (arith, e, eqb→eq (le32 b 0) block.magic t)

is_block : (b : Bytes) → le32 b 0 ≡ block.magic → T (by_bytes.is_block b)
is_block b e = rw e tt

module _ (image : Bytes) (ds : List Descriptor) where
  record_octets : Octets image → (b : Bytes) → Memᴰ b (accepted_records image ds) → Octets b
  unfolding accepted_records
  record_octets o b m =
      let s = stored image (file_areas image ds) b m in
      let area = area_bytes image s.area in
      let k = rw (records_from_lem record_size area) at s.taken_there in
      let t = from_each record_size records_lawful area area_header_size s.one k in
      let rest = drop s.one.place area in
      rw (← s.bytes_are, t.is) (octets_take (record_size rest) rest (octets_drop s.one.place area
      (octets_take s.area.length (drop s.area.offset image) (octets_drop s.area.offset image o))))

  pub name_short : Octets image → (r : Bytes) → Memᴰ r (volume image ds).inodes → length (by_bytes.name r) ≤ 255
  unfolding volume volume_of accepted_records
  name_short o r m = go (stands r)
    where
      n : Memᴰ r (accepted_records image ds) × T (not (by_bytes.is_block r))
      n = keep_mem (λ r. not (by_bytes.is_block r)) (accepted_records image ds) m

      whole : (0 < length r) × (record_size r ≡ length r)
      whole = records_whole image (file_areas image ds) r n.0

      go : Stands r → length (drop 20 r) ≤ 255
      go (an_inode a e) = omega (arith, whole.1, e, length-drop 20 r, octet_at r (record_octets o r n.0) 17)
      go (a_block a e) = absurd (T_not (by_bytes.is_block r) n.1 (is_block r (kind_magic block block_lawful r a)))
      go (nothing e) = absurd (omega (arith, whole.0, whole.1))

  pub data_short : (b : Bytes) → Memᴰ b (volume image ds).blocks → length (by_bytes.text b) ≤ longest_data
  unfolding volume volume_of accepted_records block_rules block_rule
  data_short b m = go (stands b)
    where
      n : Memᴰ b (accepted_records image ds) × T (by_bytes.is_block b)
      n = keep_mem by_bytes.is_block (accepted_records image ds) m

      whole : (0 < length b) × (record_size b ≡ length b)
      whole = records_whole image (file_areas image ds) b n.0

      rule : data_length b ≤ longest_data
      rule =
          let t = acceptable_block b (records_accepted image (file_areas image ds) b n.0) n.1 in
          let u = (and_T (is_block_id (record_id b) && is_file_id (record_link b) && previous_rule (record_id b) (block_previous b)) (ltb 0 (data_length b) && leb (data_length b) longest_data) t).1 in
          leb→le (data_length b) longest_data (and_T (ltb 0 (data_length b)) (leb (data_length b) longest_data) u).1

      go : Stands b → length (drop 24 b) ≤ longest_data
      go (an_inode a e) = absurd (not_both b (kind_magic inode inode_lawful b a) n.1)
      go (a_block a e) = omega (arith, whole.1, e, length-drop 24 b, rule)
      go (nothing e) = absurd (omega (arith, whole.0, whole.1))

text_sum : (bs : List Bytes) → ((b : Bytes) → Memᴰ b bs → length (by_bytes.text b) ≤ 2048) → length (text_of by_bytes bs) ≤ length bs * 2048
unfolding text_of
text_sum [] h = omega arith
text_sum (b ∷ bs) h =
    omega (
      arith,
      length-append (by_bytes.text b) (text_of by_bytes bs),
      h b (Memᴰ.head refl),
      text_sum bs (λ c m. h c (Memᴰ.tail m)),
    )

-- ---- the text of a volume of which this is known

module _ (v : Volume Bytes) (s : Sound by_bytes v) (root : fate_of by_bytes v root_id ≡ live)
    (names : (r : Bytes) → Memᴰ r v.inodes → length (by_bytes.name r) ≤ 255)
    (parts : (b : Bytes) → Memᴰ b v.blocks → length (by_bytes.text b) ≤ 2048)
    (few : length (block_ids by_bytes v) ≤ 1024) where
  -- a file's blocks are few, and so are its bytes
  blocks_few : (f : ℕ) (bs : List Bytes) → file_blocks by_bytes v f ≡ some bs → length (text_of by_bytes bs) < 10000000
  blocks_few f bs e =
      let w = file_blocks_lem by_bytes v (λ r m z. omega (arith, z, (s.block_id r m).1)) f bs e in
      let ids = pigeons (map by_bytes.id bs) (block_ids by_bytes v) w.once
      (λ x m. let r = Memᴰ.of_map by_bytes.id bs m in
      Memᴰ.cast (sym r.2) ((ids_of_lem by_bytes v.blocks).each (by_bytes.id r.0) r.0 (w.counts r.0 r.1))) in
      let sum = text_sum bs (λ b m. parts b (counting_mem by_bytes v.blocks (by_bytes.id b) b (w.counts b m)).0) in
      omega (arith, length-map bs by_bytes.id, ids, few, sum)

  size_short : (f : ℕ) (o : Option (List Bytes)) → file_blocks by_bytes v f ≡ o → length (size_word by_bytes o) ≤ 7
  size_short f none e = omega arith
  size_short f (some bs) e = decimal_short (length (text_of by_bytes bs)) (blocks_few f bs e)

  name_of_short : (i : ℕ) → length (name_of by_bytes v i) ≤ 255
  unfolding name_of
  name_of_short i = go (inode_of by_bytes v i) refl
    where
      go : (o : Option Bytes) → inode_of by_bytes v i ≡ o → length {A = ℕ} (elim o [ none ↦ [] | some r ↦ by_bytes.name r ]) ≤ 255
      go none e = omega arith
      go (some r) e = names r (counting_mem by_bytes v.inodes i r e).0

  words_short : (i : ℕ) → length (words_of by_bytes v i) ≤ 263
  unfolding words_of
  words_short i = go (eqb i root_id) (is_directory_id i)
    where
      word : Bytes
      word = printed (name_of by_bytes v i)

      size : Bytes
      size = size_word by_bytes (file_blocks by_bytes v i)

      long : length word ≤ 255
      long = omega (arith, length-map (name_of by_bytes v i) (λ b. cond (eqb b 10) 47 b), name_of_short i)

      after : (b : Bool) → length (cond b [] (32 ∷ size)) ≤ 8
      after true = omega arith
      after false = omega (arith, size_short i (file_blocks by_bytes v i) refl)

      go : (a b : Bool) → length (cond a (47 ∷ []) (word ++ cond b [] (32 ∷ size))) ≤ 263
      go true b = omega arith
      go false b = omega (arith, length-append word (cond b [] (32 ∷ size)), long, after b)

  line_short : (e i : ℕ) → e ≤ 64 → length (line_text by_bytes v (shown e i)) ≤ 328
  unfolding line_of
  line_short e i h =
      omega (
        arith,
        length-append (replicate e 32 ++ words_of by_bytes v i) (10 ∷ []),
        length-append (replicate e 32) (words_of by_bytes v i),
        length-replicate {A = ℕ} e 32,
        words_short i,
      )

  lines_sum : (l : List Line) → ((e i : ℕ) → Memᴰ (shown e i) l → e ≤ 64)
      → length (joined (line_text by_bytes v) l) ≤ length (ids_shown l) * 328 + length (keep is_deeper l) * 72
  unfolding joined ids_shown keep line_of
  lines_sum [] h = omega arith
  lines_sum (shown e i ∷ l) h =
      omega (
        arith,
        length-append (line_text by_bytes v (shown e i)) (joined (line_text by_bytes v) l),
        line_short e i (h e i (Memᴰ.head refl)),
        lines_sum l (λ d j m. h d j (Memᴰ.tail m)),
      )
  lines_sum (deeper ∷ l) h =
      omega (arith, length-append (line_text by_bytes v deeper) (joined (line_text by_bytes v) l), lines_sum l (λ d j m. h d j (Memᴰ.tail m)))

  pub text_short : (r : Bytes) → inode_of by_bytes v root_id ≡ some r → length (tree_text by_bytes v) ≤ length (inode_ids by_bytes v) * 400
  unfolding tree_text
  text_short r e =
      omega (
        arith,
        lines_sum (lines_of v) (λ d i m. (line_lives by_bytes v s d i root m).2),
        deeper_few v s root,
        tree_few by_bytes v s r e,
      )
