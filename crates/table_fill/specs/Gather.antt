-- The tables of a volume, and refusals 5 and 6. Document 01, "What counts" and "Numbers of refusal".
use Rattle.std.specs.Prelude.{ℕ, ◌≤◌, ◌≡◌, Bool, true, false, cond, not, ◌&&◌, ◌||◌, length, take, eqb, ltb}
use mathlib.Core.List.{List, Memᴰ}
use Rattle.format.specs.Bytes.{Bytes}
use Rattle.volume.specs.View.{View}
use Rattle.volume.specs.Counting.{Volume, volume_of, all_agree, inode_ids, block_ids}
use Rattle.record_places.specs.Place.{block_at, by_place, AllLie}
use Rattle.table_words.specs.Occupancy.{capacity}
use Rattle.table_rows.specs.Table.{taken, Rows, Good, Updates}
use Rattle.table_rows.specs.declared.Updated.{Updated}

pub record Table : Type 0 where
  pub words : List ℕ
  pub ids : List ℕ
  pub spots : List ℕ

pub record Tables : Type 0 where
  pub inodes : Table
  pub blocks : Table

abbrev pub table : List ℕ → List ℕ → List ℕ → Table
table w i s = record { words = w; ids = i; spots = s }

abbrev pub tables : List ℕ → List ℕ → List ℕ → List ℕ → List ℕ → List ℕ → Tables
tables iw ii is bw bi bs = record { inodes = table iw ii is; blocks = table bw bi bs }

-- a kind is told by whether it is that of blocks: its table, and its records
abbrev pub table_of : Bool → Tables → Table
table_of true t = t.blocks
table_of false t = t.inodes

abbrev pub records_of : {A : Type 0} → Bool → Volume A → List A
records_of true v = v.blocks
records_of false v = v.inodes

abbrev pub TableGood : Bytes → Table → Type 0
TableGood image t = Good image t.words t.ids t.spots

abbrev pub TableRows : View ℕ → List ℕ → Table → Type 0
TableRows F ps t = Rows F ps (taken t.words) t.ids t.spots

-- both tables may be used
pub record AllGood (image : Bytes) (t : Tables) : Type 0 where
  pub inodes : TableGood image t.inodes
  pub blocks : TableGood image t.blocks

-- and hold the records of a volume
pub record AllRows (F : View ℕ) (v : Volume ℕ) (t : Tables) : Type 0 where
  pub inodes : TableRows F v.inodes t.inodes
  pub blocks : TableRows F v.blocks t.blocks

-- two records have one id and one sequence
abbrev pub twins : {A : Type 0} → View A → A → A → Bool
twins F r s = eqb (F.id r) (F.id s) && eqb (F.sequence r) (F.sequence s)

-- records of one id are of one kind, as acceptable records are
abbrev pub SameKind : {A : Type 0} → View A → List A → Type 0
SameKind {A} F rs = (r s : A) → Memᴰ r rs → Memᴰ s rs → F.id r ≡ F.id s → F.is_block r ≡ F.is_block s

-- the record p was shown to the table of its kind, and the other is as it was
pub record Tabulates (image : Bytes) (p : ℕ) (t : Tables) (r : Updated) (t' : Tables) : Type 0 where
  pub shown : let u = table_of (block_at image p) t in let u' = table_of (block_at image p) t' in
      Updates image p u.words u.ids u.spots r u'.words u'.ids u'.spots
  pub other : table_of (not (block_at image p)) t' ≡ table_of (not (block_at image p)) t

-- more inode ids or block ids than the tables have places: refusal 5
abbrev pub overfull : Tables → View ℕ → Volume ℕ → Bool
overfull t F v = ltb (capacity t.inodes.words) (length (inode_ids F v)) || ltb (capacity t.blocks.words) (length (block_ids F v))

-- the first n places are of whole records, and the tables are empty
pub record Ready (image : Bytes) (places : List ℕ) (n : ℕ) (t : Tables) : Type 0 where
  pub count : n ≤ length places
  pub lie : AllLie image places n
  pub kinds : SameKind (by_place image) (take n places)
  pub good : AllGood image t
  pub no_inode : taken t.inodes.words ≡ 0
  pub no_block : taken t.blocks.words ≡ 0

-- the records ps were gathered into the tables t
pub record Gathered (image : Bytes) (ps : List ℕ) (t : Tables) (r : ℕ) (t' : Tables) : Type 0 where
  pub number : r ≡ cond (overfull t (by_place image) (volume_of (by_place image) ps)) 5 (cond (all_agree (by_place image) ps) 0 6)
  pub good : AllGood image t'
  pub rows : r ≡ 0 → AllRows (by_place image) (volume_of (by_place image) ps) t'
