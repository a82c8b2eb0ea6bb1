-- "Tree listing" (document 02, T-07): which inodes have a line, in which order, and what the text says.
use Rattle.std.specs.Prelude.{ℕ, ◌+◌, ◌*◌, ◌-◌, ◌≤◌, ◌<◌, min, ◌≡◌, ◌⊎◌, ◌≢◌, ◌↔◌, Bool, true, false, length, replicate, take, drop, eqb}
use Rattle.std.proofs.Math.Option.{none, some}
use mathlib.Core.List.{List, [], ◌∷◌, ◌++◌, Memᴰ}
use Rattle.format.specs.Bytes.{Bytes}
use Rattle.format.specs.Ids.{root_id, is_directory_id}
use Rattle.format_laws.specs.Crc.{Octets}
use Rattle.volume.specs.Lists.{keep, joined}
use Rattle.volume.specs.View.{by_bytes}
use Rattle.volume.specs.Counting.{Volume, inode_of}
use Rattle.volume.specs.Fate.{live, fate_of, lineage, names_of}
use Rattle.volume.specs.Contents.{file_blocks, text_of}
use Rattle.volume.specs.Listing.{Line, shown, deeper, tree_lines, tree_text}
use Rattle.calls.specs.Mount.{volume, mount_number}
use Rattle.calls.specs.declared.Descriptor.{Descriptor}
use Rattle.calls.specs.declared.TreeAnswer.{TreeAnswer}

-- ---- lines

abbrev pub lines_of : Volume Bytes → List Line
lines_of v = tree_lines by_bytes v

-- a line that shows the inode i
abbrev pub is_line_of : ℕ → Line → Bool
is_line_of i (shown d j) = eqb j i
is_line_of i deeper = false

-- how deep an inode lies: as many names lead to it; the root has none, "depth 0"
abbrev pub depth_of : Volume Bytes → ℕ → ℕ
depth_of v i = length (names_of by_bytes v i)

-- the line of an inode: "its depth"
abbrev pub line_of_inode : Volume Bytes → ℕ → Line
line_of_inode v i = shown (depth_of v i) i

-- one line stands before another
pub record StandsBefore (l : List Line) (a b : Line) : Type 0 where
  pub front : List Line
  pub between : List Line
  pub behind : List Line
  pub split : l ≡ front ++ (a ∷ (between ++ (b ∷ behind)))

-- ---- inodes

-- i is live, and its counting record names d as its parent
pub record Child (v : Volume Bytes) (d i : ℕ) : Type 0 where
  pub lives : fate_of by_bytes v i ≡ live
  pub own : Bytes
  pub counts : inode_of by_bytes v i ≡ some own
  pub parent : by_bytes.parent own ≡ d

-- x is live, and i is one of its ancestors
abbrev pub LiesBelow : Volume Bytes → ℕ → ℕ → Type 0
LiesBelow v i x = (fate_of by_bytes v x ≡ live) × Memᴰ i (lineage by_bytes v x) × (x ≢ i)

-- a live directory at depth 64 with a child, which is at depth 65
pub record CutShort (v : Volume Bytes) (d : ℕ) : Type 0 where
  pub lives : fate_of by_bytes v d ≡ live
  pub deep : depth_of v d ≡ 64
  pub child : ℕ
  pub has : Child v d child

-- bytes in order: of the first two that differ the lower first, and what ends first
pub data Earlier : Bytes → Bytes → Type 0 where
  ends : {y : ℕ} {m : Bytes} → Earlier [] (y ∷ m)
  lower : {x y : ℕ} {l m : Bytes} → x < y → Earlier (x ∷ l) (y ∷ m)
  equal : {x : ℕ} {l m : Bytes} → Earlier l m → Earlier (x ∷ l) (x ∷ m)

-- "in order of name bytes, then id"
abbrev pub InOrder : Bytes → ℕ → Bytes → ℕ → Type 0
InOrder n i m j = Earlier n m ⊎ ((n ≡ m) × (i < j))

-- ---- the theorem of the lines

-- what stands around the line of i
pub record Around (v : Volume Bytes) (i : ℕ) : Type 0 where
  pub front : List Line
  pub under : List Line
  pub behind : List Line
  pub split : lines_of v ≡ front ++ (line_of_inode v i ∷ (under ++ behind))
  -- "showing an entry that is a directory shows that directory": of inodes stand there all that lie below it and no others, up to depth 64
  pub below : (e x : ℕ) → Memᴰ (shown e x) under ↔ (LiesBelow v i x × (e ≡ depth_of v x) × (e ≤ 64))
  -- "A directory's children at depth 65 give one line"
  pub cut : CutShort v i → under ≡ deeper ∷ []

pub record LinesTold (v : Volume Bytes) : Type 0 where
  -- "The root is `/`, depth 0": its line is the first
  pub root_first : (rest : List Line) × (lines_of v ≡ shown 0 root_id ∷ rest)
  -- "Each live inode appears exactly once": its one line, with its depth; those at depth 65 "and all below are excepted"
  pub once : (i : ℕ) → fate_of by_bytes v i ≡ live → depth_of v i ≤ 64 → keep (is_line_of i) (lines_of v) ≡ line_of_inode v i ∷ []
  pub too_deep : (i : ℕ) → 64 < depth_of v i → keep (is_line_of i) (lines_of v) ≡ []
  -- "orphans and dead ones never"
  pub never : (i : ℕ) → fate_of by_bytes v i ≢ live → keep (is_line_of i) (lines_of v) ≡ []
  -- "showing a directory shows its entries"
  pub around : (i : ℕ) → fate_of by_bytes v i ≡ live → depth_of v i ≤ 64 → Around v i
  -- "Directories are walked in order of name bytes, then id": of two children of one directory
  pub in_order : (d i j : ℕ) (a : Child v d i) (b : Child v d j) → i ≢ j → depth_of v i ≤ 64
      → StandsBefore (lines_of v) (line_of_inode v i) (line_of_inode v j) ↔ InOrder (by_bytes.name a.own) i (by_bytes.name b.own) j
  -- "65 spaces and `deeper`" stands nowhere else than behind the line of a directory at depth 64 with a child
  pub deeper_only : (front behind : List Line) → lines_of v ≡ front ++ (deeper ∷ behind)
      → (before : List Line) × (d : ℕ) × (front ≡ before ++ (shown 64 d ∷ [])) × CutShort v d

-- ---- the text

-- the number that digits read as, from the left
unfoldable pub reads_as : ℕ → Bytes → ℕ
reads_as n [] = n
reads_as n (d ∷ l) = reads_as (n * 10 + (d - 48)) l

-- a number in decimal
pub record Decimal (n : ℕ) (digits : Bytes) : Type 0 where
  pub number : reads_as 0 digits ≡ n
  -- `0` to `9`
  pub each : (d : ℕ) → Memᴰ d digits → (48 ≤ d) × (d ≤ 57)
  -- one digit or more, and none is `0` in front, but for the number 0 itself
  pub front : ℕ
  pub rest : Bytes
  pub some_digit : digits ≡ front ∷ rest
  pub no_zero : front ≡ 48 → (n ≡ 0) × (rest ≡ [])

-- "its name (a newline in it printed as `/`)"
pub data PrintedAs : Bytes → Bytes → Type 0 where
  nothing : PrintedAs [] []
  newline : {l m : Bytes} → PrintedAs l m → PrintedAs (10 ∷ l) (47 ∷ m)
  other : {b : ℕ} {l m : Bytes} → b ≢ 10 → PrintedAs l m → PrintedAs (b ∷ l) (b ∷ m)

-- the line of an inode i of a name, other than the root: "its depth as spaces, its name .., and for files the size or `broken`"
pub record LineSays (v : Volume Bytes) (i : ℕ) (name line : Bytes) : Type 0 where
  pub printed : Bytes
  pub as_printed : PrintedAs name printed
  pub size : Bytes
  pub line_is : line ≡ replicate (depth_of v i) 32 ++ (printed ++ (size ++ (10 ∷ [])))
  pub directory : is_directory_id i ≡ true → size ≡ []
  -- a space, and then the size ..
  pub file : is_directory_id i ≡ false → (bs : List Bytes) → file_blocks by_bytes v i ≡ some bs
      → (digits : Bytes) × (size ≡ 32 ∷ digits) × Decimal (length (text_of by_bytes bs)) digits
  -- .. or `broken`
  pub broken : is_directory_id i ≡ false → file_blocks by_bytes v i ≡ none → size ≡ 32 ∷ 98 ∷ 114 ∷ 111 ∷ 107 ∷ 101 ∷ 110 ∷ []

pub record TextTold (v : Volume Bytes) (text : Bytes) : Type 0 where
  -- the lines one after the other
  pub says : Line → Bytes
  pub joined_lines : text ≡ joined says (lines_of v)
  -- "The root is `/`"
  pub root : says (shown 0 root_id) ≡ 47 ∷ 10 ∷ []
  -- "one line each"
  pub inodes : (i : ℕ) (r : Bytes) → i ≢ root_id → inode_of by_bytes v i ≡ some r → LineSays v i (by_bytes.name r) (says (line_of_inode v i))
  -- "65 spaces and `deeper`"
  pub cut : says deeper ≡ replicate 65 32 ++ (100 ∷ 101 ∷ 101 ∷ 112 ∷ 101 ∷ 114 ∷ 10 ∷ [])
  -- a newline stands at the end of a line and nowhere else
  pub ends : (l : Line) → (front : Bytes) × (says l ≡ front ++ (10 ∷ [])) × ¬ Memᴰ 10 front

-- ---- the theorem of an image that mounts

pub record TreeTold (image : Bytes) (ds : List Descriptor) : Type 0 where
  pub lines : LinesTold (volume image ds)
  pub text : TextTold (volume image ds) (tree_text by_bytes (volume image ds))
  -- so that a buffer of this length holds every tree: 256 inodes (T-06), of each 400 bytes; the numbers of an image are bytes, each below 256
  pub short : Octets image → length (tree_text by_bytes (volume image ds)) ≤ 102400

-- ---- the theorem of the call

-- its answer and the lent buffer afterwards, of any image and list
pub record TreeCall (image : Bytes) (ds : List Descriptor) (buffer : Bytes) (answer : TreeAnswer) (buffer' : Bytes) : Type 0 where
  pub number : answer.number ≡ mount_number image ds
  -- "A refused answer's other numbers are 0"; no byte of the buffer changes
  pub refused : answer.number ≢ 0 → (answer.length ≡ 0) × (buffer' ≡ buffer)
  -- the length is that of the whole text; as much of it as fits is in the front of the buffer, and the rest stays
  pub whole : answer.number ≡ 0 → answer.length ≡ length (tree_text by_bytes (volume image ds))
  pub front : answer.number ≡ 0 → let n = min (length buffer) answer.length in
      (take n buffer' ≡ take n (tree_text by_bytes (volume image ds))) × (drop n buffer' ≡ drop n buffer)
