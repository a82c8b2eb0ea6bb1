-- What the rules read of a record, for any way to hold records: by their bytes, or by their places in an image.
use Rattle.std.specs.Prelude.{ℕ, Bool, drop, eqb}
use Rattle.format.specs.Bytes.{Bytes, le32}
use Rattle.format.specs.Record.{inode, block, record_id, record_sequence, record_link, block_previous}
use Rattle.volume.specs.Lists.{same}

pub record View (A : Type 0) : Type 0 where
  pub id : A → ℕ
  pub sequence : A → ℕ
  pub is_block : A → Bool
  -- of an inode
  pub parent : A → ℕ
  pub name : A → Bytes
  -- of a block
  pub owner : A → ℕ
  pub previous : A → ℕ
  pub text : A → Bytes
  -- whether all bytes are equal
  pub same : A → A → Bool

-- records held by their bytes: what the demands speak of
abbrev pub by_bytes : View Bytes
by_bytes = record {
  id = record_id;
  sequence = record_sequence;
  is_block = λ b. eqb (le32 b 0) block.magic;
  parent = record_link;
  name = drop inode.header_size;
  owner = record_link;
  previous = block_previous;
  text = drop block.header_size;
  same = same;
}
