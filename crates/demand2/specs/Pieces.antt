-- Several blocks stored for a file, each naming the one before.
use Rattle.std.specs.Prelude.{ℕ, ◌+◌, ◌≤◌, ◌<◌, ◌≡◌, ◌≢◌, ◌⊎◌}
use Rattle.std.proofs.Math.Option.{some}
use mathlib.Core.List.{List, [], ◌∷◌, ◌++◌, Memᴰ}
use Rattle.format.specs.Bytes.{Bytes}
use Rattle.format.specs.Ids.{NONE, first_block_id}
use Rattle.format.specs.Record.{record_id, record_sequence, block_previous}
use Rattle.format.specs.Encoding.{block_bytes}
use Rattle.volume.specs.View.{by_bytes}
use Rattle.volume.specs.Counting.{Volume}
use Rattle.volume.specs.Contents.{file_blocks}
use Rattle.calls.specs.Image.{put}
use Rattle.calls.specs.Mount.{most_blocks, volume}
use Rattle.calls.specs.Storing.{unused_id}
use Rattle.calls.specs.declared.Descriptor.{Descriptor}
use Rattle.calls_laws.specs.Checks.{Passes}
use Rattle.demand2.specs.Store.{free_place, RecordFits}
use Rattle.demand2.specs.Places.{Written}
use Rattle.calls_laws.specs.Unused.{Smallest}
use Rattle.demand2.specs.Added.{Same}
use Rattle.demand2.specs.NewRecord.{IsBlock}
use Rattle.demand2.specs.Unused.{most_named}

-- ---- the records

-- the block that the next piece names: none, or one whose id is among those named
pub data Behind (names : List ℕ) (previous : ℕ) : Type 0 where
  nothing : previous ≡ NONE → Behind names previous
  a_block : first_block_id ≤ previous → previous < NONE → Memᴰ previous names → Behind names previous

-- the names of a volume and of what one append adds; they leave ids enough
abbrev pub most_names : ℕ
most_names = most_named + most_blocks

abbrev pub next : List ℕ → ℕ
next names = unused_id first_block_id names

-- each record is the block that was meant
abbrev pub Made : List ℕ → ℕ → ℕ → List Bytes → Type 0
Made names f previous [] = Unit {0}
Made names f previous (p ∷ ps) = IsBlock (block_bytes (next names) 0 f previous p) (next names) 0 f previous p × Made (next names ∷ names) f
    (next names) ps

-- A new block of the file f: sequence 0, "the smallest id of their range" that names do not have, and "naming the one before"
pub record NextBlock (names : List ℕ) (f previous : ℕ) (b : Bytes) : Type 0 where
  pub sequence : record_sequence b ≡ 0
  pub smallest : Smallest first_block_id names (record_id b)
  pub of_file : by_bytes.owner b ≡ f
  pub names_before_lem : block_previous b ≡ previous

-- and several, piece by piece: the id that one takes is named for the next, which names it
pub data Chained (f : ℕ) : List ℕ → ℕ → List Bytes → Type 0 where
  chain_end : {names : List ℕ} {previous : ℕ} → Chained f names previous []
  chain_on : {names : List ℕ} {previous : ℕ} {b : Bytes} {bs : List Bytes} → NextBlock names f previous b
      → Chained f (record_id b ∷ names) (record_id b) bs → Chained f names previous (b ∷ bs)

-- the id of the last of these blocks, NONE where there is none
abbrev pub last_id : List Bytes → ℕ
last_id [] = NONE
last_id (b ∷ []) = record_id b
last_id (b ∷ c ∷ bs) = last_id (c ∷ bs)

-- ---- stored one after the other

-- the first of several, and the rest
pub record WrittenFirst (ds : List Descriptor) (image : Bytes) (b : Bytes) (bs : List Bytes) (image' : Bytes) : Type 0 where
  pub area : Descriptor
  pub fits : RecordFits image ds area b
  pub rest : Written ds (put image (free_place image area) b) bs image'

-- what the blocks of a volume name is among names
abbrev pub BlocksName : Volume Bytes → List ℕ → Type 0
BlocksName v names = (r : Bytes) → Memᴰ r v.blocks → Memᴰ (record_id r) names ×
    ((block_previous r ≡ NONE) ⊎ Memᴰ (block_previous r) names)

-- the blocks bs are stored for the file f
pub record Grown (image image' : Bytes) (ds : List Descriptor) (f : ℕ) (bs : List Bytes) : Type 0 where
  pub passes : Passes image' ds
  pub same_inodes : Same (volume image ds).inodes (volume image' ds).inodes
  pub contents : (old : List Bytes) → file_blocks by_bytes (volume image ds) f ≡ some old → file_blocks by_bytes (volume image' ds) f ≡ some (old ++ bs)
  pub other_files : (g : ℕ) → g ≢ f → file_blocks by_bytes (volume image' ds) g ≡ file_blocks by_bytes (volume image ds) g
