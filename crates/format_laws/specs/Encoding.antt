-- What is written is acceptable and reads as what was meant.
use Rattle.std.specs.Prelude.{ℕ, zero, suc, ◌+◌, ◌/◌, ◌%◌, ◌^◌, ◌≤◌, ◌<◌, ◌≡◌, true, take, drop}
use Rattle.std.proofs.Math.Path.{refl}
use Rattle.std.proofs.Common.{sym, ◌∙◌, le_of_suc-le-suc}
use mathlib.Core.List.{[], ◌∷◌, ◌++◌, append-nil}
use native.Mathlib.Omega.{arith}
use Rattle.std.proofs.Math.ListN.{length, length-append}
use Rattle.std.proofs.Math.Seq.{take-append_seam, drop-append-add, get_or-append_seam, get_or-append-add}
use borrow.Author.Tests.{le-leb, eq-eqb}
use Rattle.format.specs.Bytes.{Bytes, byte_at, le16, le32, enc16, enc32}
use Rattle.format.specs.Crc.{check}
use Rattle.format.specs.Record.{
  Kind,
  inode,
  block,
  inode_rule,
  inode_rules,
  block_rule,
  block_rules,
  name_good,
  check_right,
  well_formed,
  declared_size,
  acceptable,
  record_size,
  record_id,
  record_sequence,
  record_link,
  inode_reserved,
  name_length,
  block_previous,
  data_length,
}
use Rattle.format.specs.AreaHeader.{magics_right, valid_header, collection_count, area_id}
use Rattle.format.specs.Encoding.{inode_front, block_front, sealed, inode_bytes, block_bytes, area_header}
use Rattle.format_laws.specs.Crc.{Octets, check_lt}
use Rattle.format_laws.specs.Record.{size_inode, size_block}

-- ---- octets

pub octets_none : Octets []
octets_none = record { at = λ i g. absurd (omega arith) }

pub octets_cons : {l : Bytes} (v : ℕ) → v < 256 → Octets l → Octets (v ∷ l)
octets_cons {l} v h k = record { at = go }
  where
    go : (i : ℕ) → i < length (v ∷ l) → byte_at (v ∷ l) i < 256
    go zero g = h
    go (suc i) g = k.at i (le_of_suc-le-suc g)

pub octets16 : {l : Bytes} (v : ℕ) → Octets l → Octets (enc16 v l)
octets16 v k = octets_cons (v % 256) (omega arith) (octets_cons (v / 256 % 256) (omega arith) k)

pub octets32 : {l : Bytes} (v : ℕ) → Octets l → Octets (enc32 v l)
octets32 v k = octets16 v (octets_cons (v / 256 / 256 % 256) (omega arith) (octets_cons (v / 256 / 256 / 256 % 256) (omega arith) k))

pub inode_front_octets : (id sequence parent n : ℕ) → n < 256 → Octets (inode_front id sequence parent n)
unfolding inode_front
inode_front_octets id sequence parent n h =
    octets32 inode.magic (octets32 id (octets32 sequence (octets32 parent (octets_cons 0 (omega arith) (octets_cons n h octets_none)))))

pub block_front_octets : (id sequence owner previous n : ℕ) → Octets (block_front id sequence owner previous n)
unfolding block_front
block_front_octets id sequence owner previous n =
    octets32 block.magic (octets32 id (octets32 sequence (octets32 owner (octets32 previous (octets16 n octets_none)))))

-- ---- a sealed record of either kind, whatever its front

module _ (front body : Bytes) where
  pub sealed_length : length (sealed front body) ≡ length front + 2 + length body
  unfolding sealed
  sealed_length = length-append front (enc16 (check front body) body) ∙ omega arith

  sealed_front : take (length front) (sealed front body) ≡ front
  unfolding sealed
  sealed_front = take-append_seam front (enc16 (check front body) body)

  pub sealed_body : drop (length front + 2) (sealed front body) ≡ body
  unfolding sealed
  sealed_body = drop-append-add front (enc16 (check front body) body) 2

  sealed_field : check front body < 65536 → le16 (sealed front body) (length front) ≡ check front body
  unfolding le16 sealed
  sealed_field h =
      let z = get_or-append_seam front (check front body % 256) (check front body / 256 % 256 ∷ body) 0 in
      let o = get_or-append-add front (enc16 (check front body) body) 1 0 in
      omega (arith, z, o)

  -- a kind whose check field stands behind this front
  module _ (k : Kind) (offset : k.check_offset ≡ length front) (header : k.header_size ≡ length front + 2) (small : check front body < 65536) where
    sealed_check : check_right k (sealed front body) ≡ true
    unfolding check_right
    sealed_check = rw (offset, header, sealed_front, sealed_body, sealed_field small) (eq-eqb (check front body) (check front body) refl)

    pub sealed_formed : le32 (sealed front body) 0 ≡ k.magic → k.rules (sealed front body) ≡ true → well_formed k (sealed front body) ≡ true
    unfolding well_formed
    sealed_formed m r = rw (m, r, sealed_check, eq-eqb k.magic k.magic refl)

    -- it is acceptable wherever it stands with the room that it takes
    pub sealed_accepted : (rest : Bytes) → k.body_length (sealed front body ++ rest) ≡ length body → well_formed k (sealed front body) ≡ true
        → (acceptable k (sealed front body ++ rest) ≡ true) × (declared_size k (sealed front body ++ rest) ≡ length (sealed front body))
    unfolding acceptable
    sealed_accepted rest n w =
        let b = sealed front body in
        let size : declared_size k (b ++ rest) ≡ length b = rw (n, header) (sym sealed_length) in
        let room : length b ≤ length (b ++ rest) = omega (arith, length-append b rest) in
        (rw (size, le-leb (length b) (length (b ++ rest)) room, take-append_seam b rest) w, size)

-- ---- inodes

pub record MeantInode (id sequence parent : ℕ) (name : Bytes) : Type 0 where
  pub id_fits : id < 2 ^ 32
  pub sequence_fits : sequence < 2 ^ 32
  pub parent_fits : parent < 2 ^ 32
  pub name_fits : length name < 256
  pub rule : inode_rule id parent (length name) ≡ true
  pub good : name_good name ≡ true
  pub octets : Octets name

module _ (id sequence parent : ℕ) (name : Bytes) (m : MeantInode id sequence parent name) where
  module _ (rest : Bytes) where
    pub inode_id : record_id (inode_bytes id sequence parent name ++ rest) ≡ id
    unfolding le32 inode_bytes sealed inode_front
    inode_id = omega (arith, m.id_fits)

    pub inode_sequence : record_sequence (inode_bytes id sequence parent name ++ rest) ≡ sequence
    unfolding le32 inode_bytes sealed inode_front
    inode_sequence = omega (arith, m.sequence_fits)

    pub inode_parent : record_link (inode_bytes id sequence parent name ++ rest) ≡ parent
    unfolding le32 inode_bytes sealed inode_front
    inode_parent = omega (arith, m.parent_fits)

    inode_length : name_length (inode_bytes id sequence parent name ++ rest) ≡ length name
    unfolding inode_bytes sealed inode_front
    inode_length = refl

  pub inode_name : drop inode.header_size (inode_bytes id sequence parent name) ≡ name
  unfolding inode_bytes inode_front
  inode_name = sealed_body (inode_front id sequence parent (length name)) name

  inode_reserved_lem : inode_reserved (inode_bytes id sequence parent name) ≡ 0
  unfolding inode_bytes sealed inode_front
  inode_reserved_lem = refl

  inode_rules_lem : inode_rules (inode_bytes id sequence parent name) ≡ true
  unfolding inode_rules
  inode_rules_lem =
      let b = inode_bytes id sequence parent name in
      let e = append-nil b in
      let i : record_id b ≡ id = rw e at (inode_id []) in
      let p : record_link b ≡ parent = rw e at (inode_parent []) in
      let n : name_length b ≡ length name = rw e at (inode_length []) in
      rw (inode_reserved_lem, i, p, n, m.rule, inode_name, m.good)

  inode_check : check (inode_front id sequence parent (length name)) name < 65536
  inode_check = check_lt _ name (inode_front_octets id sequence parent (length name) m.name_fits) m.octets

  inode_formed : well_formed inode (inode_bytes id sequence parent name) ≡ true
  unfolding inode_bytes inode_front le32 sealed
  inode_formed = sealed_formed (inode_front id sequence parent (length name)) name inode refl refl inode_check refl inode_rules_lem

  -- an inode that is written is acceptable, and takes the bytes that were written
  pub inode_written : (rest : Bytes) → (acceptable inode (inode_bytes id sequence parent name ++ rest) ≡ true)
      × (record_size (inode_bytes id sequence parent name ++ rest) ≡ length (inode_bytes id sequence parent name))
  unfolding inode_bytes inode_front
  inode_written rest =
      let b = inode_bytes id sequence parent name in
      let a = sealed_accepted (inode_front id sequence parent (length name)) name inode refl refl inode_check rest (inode_length rest) inode_formed in
      (a.0, size_inode (b ++ rest) a.0 ∙ a.1)

pub inode_size : (id sequence parent : ℕ) (name : Bytes) → length (inode_bytes id sequence parent name) ≡ inode.header_size + length name
unfolding inode_bytes inode_front
inode_size id sequence parent name = sealed_length (inode_front id sequence parent (length name)) name

-- ---- blocks

pub record MeantBlock (id sequence owner previous : ℕ) (text : Bytes) : Type 0 where
  pub id_fits : id < 2 ^ 32
  pub sequence_fits : sequence < 2 ^ 32
  pub owner_fits : owner < 2 ^ 32
  pub previous_fits : previous < 2 ^ 32
  pub text_fits : length text < 65536
  pub rule : block_rule id owner previous (length text) ≡ true
  pub octets : Octets text

module _ (id sequence owner previous : ℕ) (text : Bytes) (m : MeantBlock id sequence owner previous text) where
  module _ (rest : Bytes) where
    pub block_id : record_id (block_bytes id sequence owner previous text ++ rest) ≡ id
    unfolding le32 block_bytes sealed block_front
    block_id = omega (arith, m.id_fits)

    pub block_sequence : record_sequence (block_bytes id sequence owner previous text ++ rest) ≡ sequence
    unfolding le32 block_bytes sealed block_front
    block_sequence = omega (arith, m.sequence_fits)

    pub block_owner : record_link (block_bytes id sequence owner previous text ++ rest) ≡ owner
    unfolding le32 block_bytes sealed block_front
    block_owner = omega (arith, m.owner_fits)

    pub block_previous_lem : block_previous (block_bytes id sequence owner previous text ++ rest) ≡ previous
    unfolding le32 block_bytes sealed block_front
    block_previous_lem = omega (arith, m.previous_fits)

    block_length : data_length (block_bytes id sequence owner previous text ++ rest) ≡ length text
    unfolding le16 block_bytes sealed block_front
    block_length = omega (arith, m.text_fits)

  pub block_text : drop block.header_size (block_bytes id sequence owner previous text) ≡ text
  unfolding block_bytes block_front
  block_text = sealed_body (block_front id sequence owner previous (length text)) text

  block_rules_lem : block_rules (block_bytes id sequence owner previous text) ≡ true
  unfolding block_rules
  block_rules_lem =
      let b = block_bytes id sequence owner previous text in
      let e = append-nil b in
      let i : record_id b ≡ id = rw e at (block_id []) in
      let o : record_link b ≡ owner = rw e at (block_owner []) in
      let p : block_previous b ≡ previous = rw e at (block_previous_lem []) in
      let n : data_length b ≡ length text = rw e at (block_length []) in
      rw (i, o, p, n, m.rule)

  block_check : check (block_front id sequence owner previous (length text)) text < 65536
  block_check = check_lt _ text (block_front_octets id sequence owner previous (length text)) m.octets

  block_formed : well_formed block (block_bytes id sequence owner previous text) ≡ true
  unfolding block_bytes block_front le32 sealed
  block_formed = sealed_formed (block_front id sequence owner previous (length text)) text block refl refl block_check refl block_rules_lem

  -- a block that is written is acceptable, and takes the bytes that were written
  pub block_written : (rest : Bytes) → (acceptable block (block_bytes id sequence owner previous text ++ rest) ≡ true)
      × (record_size (block_bytes id sequence owner previous text ++ rest) ≡ length (block_bytes id sequence owner previous text))
  unfolding block_bytes block_front
  block_written rest =
      let b = block_bytes id sequence owner previous text in
      let a = sealed_accepted (block_front id sequence owner previous (length text)) text block refl refl block_check rest (block_length rest) block_formed in
      (a.0, size_block (b ++ rest) a.0 ∙ a.1)

pub block_size : (id sequence owner previous : ℕ) (text : Bytes)
    → length (block_bytes id sequence owner previous text) ≡ block.header_size + length text
unfolding block_bytes block_front
block_size id sequence owner previous text = sealed_length (block_front id sequence owner previous (length text)) text

-- ---- area headers

pub header_size_lem : (size count id : ℕ) → length (area_header size count id) ≡ 24
unfolding area_header
header_size_lem size count id = refl

-- a header that is written is valid for an area of its length, and holds what was meant
module _ (size count id : ℕ) (rest : Bytes) where
  pub header_valid : size < 2 ^ 32 → valid_header size (area_header size count id ++ rest) ≡ true
  unfolding valid_header magics_right le32 area_header
  header_valid h =
      let e : le32 (area_header size count id ++ rest) 16 ≡ size = omega arith in
      rw (eq-eqb _ _ e)

  pub header_count : collection_count (area_header size count id ++ rest) ≡ count
  unfolding area_header
  header_count = refl

  pub header_id : area_id (area_header size count id ++ rest) ≡ id
  unfolding area_header
  header_id = refl
