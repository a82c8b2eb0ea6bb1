-- The tree of a volume, line by line. Document 02, T-07.
use Rattle.std.specs.Prelude.{ℕ, zero, suc, ◌+◌, ◌-◌, ◌/◌, ◌%◌, List, [], ◌∷◌, ◌++◌, map, Bool, true, false, cond, ◌&&◌, ◌||◌, length, replicate, eqb, ltb}
use Rattle.std.proofs.Math.Option.{Option, none, some}
use Rattle.format.specs.Bytes.{Bytes}
use Rattle.format.specs.Ids.{root_id, is_directory_id}
use Rattle.volume.specs.Lists.{keep, same, has, joined, sort}
use Rattle.volume.specs.View.{View}
use Rattle.volume.specs.Counting.{Volume, inode_of, inode_ids}
use Rattle.volume.specs.Fate.{is_live, fate_of}
use Rattle.volume.specs.Contents.{file_blocks, text_of}

-- the greatest depth that is shown
abbrev pub most_depth : ℕ
most_depth = 64

-- a line: an inode at a depth, or "deeper"
pub data Line : Type 0 where
  shown : ℕ → ℕ → Line
  deeper : Line

-- "in order of name bytes", a shorter name before a longer one that it begins
unfoldable pub bytes_before : Bytes → Bytes → Bool
bytes_before [] [] = false
bytes_before [] (y ∷ m) = true
bytes_before (x ∷ l) [] = false
bytes_before (x ∷ l) (y ∷ m) = ltb x y || (eqb x y && bytes_before l m)

-- "A directory's children at depth 65 give one line"
abbrev pub deeper_for : List ℕ → List Line
deeper_for [] = []
deeper_for (i ∷ is) = deeper ∷ []

-- "showing an entry that is a directory shows that directory"
unfoldable pub show_entry : (ℕ → List Line) → ℕ → ℕ → List Line
show_entry directory depth i = shown depth i ∷ cond (is_directory_id i) (directory i) []

abbrev pub digit : ℕ → Bytes
digit n = (48 + n) ∷ []

-- a number in decimal digits, of which there are at most k
unfoldable pub digits_within : ℕ → ℕ → Bytes
digits_within zero n = []
digits_within (suc k) n = cond (ltb n 10) (digit n) (digits_within k (n / 10) ++ digit (n % 10))

unfoldable pub decimal : ℕ → Bytes
decimal n = digits_within (suc n) n

-- "a newline in it printed as `/`"
abbrev pub printed : Bytes → Bytes
printed = map (λ b. cond (eqb b 10) 47 b)

-- the words `broken` and `deeper`
abbrev pub broken_word : Bytes
broken_word = 98 ∷ 114 ∷ 111 ∷ 107 ∷ 101 ∷ 110 ∷ []

abbrev pub deeper_word : Bytes
deeper_word = 100 ∷ 101 ∷ 101 ∷ 112 ∷ 101 ∷ 114 ∷ []

-- a line of text: "its depth as spaces", the words, a newline
unfoldable pub line_of : ℕ → Bytes → Bytes
line_of depth words = replicate depth 32 ++ words ++ (10 ∷ [])

module _ {A : Type 0} (F : View A) where
  -- the name of the inode of an id
  unfoldable pub name_of : Volume A → ℕ → Bytes
  name_of v i = elim (inode_of F v i) [ none ↦ [] | some r ↦ F.name r ]

  -- "in order of name bytes, then id"
  unfoldable pub comes_before : Volume A → ℕ → ℕ → Bool
  comes_before v i j = bytes_before (name_of v i) (name_of v j) || (same (name_of v i) (name_of v j) && ltb i j)

  -- i is a live child of the directory d
  unfoldable pub is_live_child : Volume A → ℕ → ℕ → Bool
  is_live_child v d i = has (λ r. eqb (F.parent r) d) (inode_of F v i) && is_live (fate_of F v i)

  -- the live children of a directory: "Directories are walked in order of name bytes, then id"
  unfoldable pub entries_of : Volume A → ℕ → List ℕ
  entries_of v d = keep (is_live_child v d) (sort (comes_before v) (inode_ids F v))

  -- "showing a directory shows its entries", of at most k more levels
  unfoldable pub show_directory : Volume A → ℕ → ℕ → List Line
  show_directory v zero d = deeper_for (entries_of v d)
  show_directory v (suc k) d = joined (show_entry (show_directory v k) (most_depth - k)) (entries_of v d)

  -- "The root is `/`, depth 0"
  unfoldable pub tree_lines : Volume A → List Line
  tree_lines v = shown 0 root_id ∷ show_directory v most_depth root_id

  -- "for files the size or `broken`"
  abbrev pub size_word : Option (List A) → Bytes
  size_word none = broken_word
  size_word (some bs) = decimal (length (text_of F bs))

  -- what a line says of an inode
  unfoldable pub words_of : Volume A → ℕ → Bytes
  words_of v i =
      cond (eqb i root_id) (47 ∷ [])
      (printed (name_of v i) ++ cond (is_directory_id i) [] (32 ∷ size_word (file_blocks F v i)))

  abbrev pub line_text : Volume A → Line → Bytes
  line_text v (shown depth i) = line_of depth (words_of v i)
  line_text v deeper = line_of (suc most_depth) deeper_word

  -- "one line each"
  unfoldable pub tree_text : Volume A → Bytes
  tree_text v = joined (line_text v) (tree_lines v)
