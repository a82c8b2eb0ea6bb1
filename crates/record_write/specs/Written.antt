-- Where a record or an area header was written, reading finds it, and what it reads is what was meant.
use Rattle.std.specs.Prelude.{ℕ, ◌+◌, ◌^◌, ◌≤◌, ◌<◌, ◌≡◌, true, not, [], ◌++◌, length, take, drop, eqb}
use Rattle.std.proofs.Common.{subst, ◌∙◌, append-nil, arith}
use Rattle.std.proofs.Math.Seq.{take-append_seam}
use Rattle.std.proofs.lemmas.List.{drop-append-le}
use Rattle.format.specs.Bytes.{Bytes}
use Rattle.format.specs.Record.{Kind, inode, block, acceptable, record_size, name_length, data_length}
use Rattle.format.specs.AreaHeader.{area_header_size, valid_header, collection_count, area_id, scratch_id, is_scratch, is_file_area}
use Rattle.format.specs.Encoding.{inode_bytes, block_bytes, area_header}
use Rattle.format_laws.specs.Record.{size_inode, size_block}
use Rattle.format_laws.specs.Encoding.{
  MeantInode,
  inode_id,
  inode_sequence,
  inode_parent,
  inode_name,
  inode_written,
  inode_size,
  MeantBlock,
  block_id,
  block_sequence,
  block_owner,
  block_previous_lem,
  block_text,
  block_written,
  block_size,
  header_size_lem,
  header_valid,
  header_count,
  header_id,
}
use Rattle.calls.specs.Image.{put, part}
use Rattle.image_laws.specs.Laws.{drop_put}
use Rattle.record_read.specs.Headers.{inode_header, block_header}
use Rattle.record_read.specs.declared.InodeHeader.{InodeHeader}
use Rattle.record_read.specs.declared.BlockHeader.{BlockHeader}

-- what holds of the bytes b whatever follows them holds where they are put
module _ (P : Bytes → Type 0) (b : Bytes) (whatever_follows : (rest : Bytes) → P (b ++ rest)) where
  where_put : (x : Bytes) (at : ℕ) → at + length b ≤ length x → P (drop at (put x at b))
  where_put x at room = rw (drop_put x at b room) (whatever_follows (drop (at + length b) x))

-- ---- records of either kind

-- at the front of t stands the record b of the kind k, with the body, and `read` makes h of its header
pub record Stands {H : Type 0} (k : Kind) (read : Bytes → H) (t b body : Bytes) (h : H) : Type 0 where
  pub accepted : acceptable k t ≡ true
  pub size : record_size t ≡ k.header_size + length body
  pub bytes : take (record_size t) t ≡ b
  pub header : read t ≡ h
  pub body_part : part t k.header_size (length body) ≡ body

module _ {H : Type 0} (k : Kind) (read : Bytes → H) (b body : Bytes) (h : H) (sized : length b ≡ k.header_size + length body)
    (ends : drop k.header_size b ≡ body)
    (written : (rest : Bytes) → (acceptable k (b ++ rest) ≡ true) × (record_size (b ++ rest) ≡ length b))
    (reads : (rest : Bytes) → read (b ++ rest) ≡ h) where
  followed : (rest : Bytes) → Stands k read (b ++ rest) b body h
  followed rest =
      let w = written rest in
      record {
        accepted = w.0;
        size = w.1 ∙ sized;
        bytes = rw w.1 (take-append_seam b rest);
        header = reads rest;
        body_part = rw (drop-append-le k.header_size b rest (omega arith), ends) (take-append_seam body rest);
      }

  alone : Stands k read b b body h
  alone = subst (λ (t : Bytes). Stands k read t b body h) (append-nil b) (followed [])

  stored : (x : Bytes) (at : ℕ) → at + (k.header_size + length body) ≤ length x → Stands k read (drop at (put x at b)) b body h
  stored x at room = where_put (λ t. Stands k read t b body h) b followed x at (omega arith)

-- ---- the kinds

abbrev pub inode_of : InodeHeader → Bytes → Bytes
inode_of h name = inode_bytes h.id h.sequence h.parent name

abbrev pub block_of : BlockHeader → Bytes → Bytes
block_of h text = block_bytes h.id h.sequence h.owner h.previous text

abbrev pub InodeStands : Bytes → InodeHeader → Bytes → Type 0
InodeStands t h name = Stands inode inode_header t (inode_of h name) name h

abbrev pub BlockStands : Bytes → BlockHeader → Bytes → Type 0
BlockStands t h text = Stands block block_header t (block_of h text) text h

-- ---- inodes

module _ (h : InodeHeader) (name : Bytes) (m : MeantInode h.id h.sequence h.parent name) (n : h.length ≡ length name) where
  inode_read : (rest : Bytes) → inode_header (inode_of h name ++ rest) ≡ h
  unfolding inode_header
  inode_read rest =
      let w = inode_written _ _ _ _ m rest in
      let s = inode_size h.id h.sequence h.parent name in
      let l : name_length (inode_of h name ++ rest) ≡ h.length = omega (arith, size_inode _ w.0, w.1) in
      simp (inode_id _ _ _ _ m rest, inode_sequence _ _ _ _ m rest, inode_parent _ _ _ _ m rest, l)

  -- the record by itself, as an area's reading takes it
  pub inode_alone : InodeStands (inode_of h name) h name
  inode_alone =
      alone inode inode_header _ name h (inode_size h.id h.sequence h.parent name) (inode_name _ _ _ _ m) (inode_written _ _ _ _ m) inode_read

  -- at its place, as `write_inode` leaves it
  pub inode_stored : (x : Bytes) (at : ℕ) → at + (inode.header_size + length name) ≤ length x
      → InodeStands (drop at (put x at (inode_of h name))) h name
  inode_stored =
      stored inode inode_header _ name h (inode_size h.id h.sequence h.parent name) (inode_name _ _ _ _ m) (inode_written _ _ _ _ m) inode_read

-- ---- blocks

module _ (h : BlockHeader) (text : Bytes) (m : MeantBlock h.id h.sequence h.owner h.previous text) (n : h.length ≡ length text) where
  block_read : (rest : Bytes) → block_header (block_of h text ++ rest) ≡ h
  unfolding block_header
  block_read rest =
      let w = block_written _ _ _ _ _ m rest in
      let s = block_size h.id h.sequence h.owner h.previous text in
      let l : data_length (block_of h text ++ rest) ≡ h.length =
      omega (arith, size_block _ w.0, w.1) in
      simp (block_id _ _ _ _ _ m rest, block_sequence _ _ _ _ _ m rest, block_owner _ _ _ _ _ m rest, block_previous_lem _ _ _ _ _ m rest, l)

  pub block_alone : BlockStands (block_of h text) h text
  block_alone =
      alone block block_header _ text h (block_size h.id h.sequence h.owner h.previous text) (block_text _ _ _ _ _ m) (block_written _ _ _ _ _ m)
      block_read

  pub block_stored : (x : Bytes) (at : ℕ) → at + (block.header_size + length text) ≤ length x
      → BlockStands (drop at (put x at (block_of h text))) h text
  block_stored =
      stored block block_header _ text h (block_size h.id h.sequence h.owner h.previous text) (block_text _ _ _ _ _ m) (block_written _ _ _ _ _ m)
      block_read

-- ---- area headers

-- at the front of t stands the header of an area of so many bytes
pub record HeaderStands (t : Bytes) (size count id : ℕ) : Type 0 where
  pub valid : valid_header size t ≡ true
  pub count_is : collection_count t ≡ count
  pub id_is : area_id t ≡ id
  pub scratch : is_scratch size t ≡ eqb id scratch_id
  pub file : is_file_area size t ≡ not (eqb id scratch_id)

module _ (size count id : ℕ) (fits : size < 2 ^ 32) where
  header_followed : (rest : Bytes) → HeaderStands (area_header size count id ++ rest) size count id
  unfolding is_scratch is_file_area
  header_followed rest =
      let v = header_valid size count id rest fits in
      let i = header_id size count id rest in
      record { valid = v; count_is = header_count size count id rest; id_is = i; scratch = rw (v, i); file = rw (v, i) }

  -- as `write_area_header` leaves it
  pub header_stored : (x : Bytes) (at : ℕ) → at + area_header_size ≤ length x
      → HeaderStands (drop at (put x at (area_header size count id))) size count id
  header_stored x at room =
      where_put (λ t. HeaderStands t size count id) (area_header size count id) header_followed x at (omega (arith, header_size_lem size count id))
