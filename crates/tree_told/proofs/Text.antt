-- What the text says: numbers in decimal, names as printed, a line's end; and the call, which hands it out.
use Rattle.std.specs.Prelude.{ℕ, zero, suc, ◌+◌, ◌*◌, ◌-◌, ◌/◌, ◌%◌, ◌≤◌, ◌<◌, min, ◌≡◌, ◌≢◌, Bool, cond, not, length, take, drop, T, eqb, ltb}
use Rattle.std.proofs.Math.Path.{refl, ap}
use Rattle.std.proofs.Common.{sym, ◌∙◌, arith, drop_of_length-le, take_all, take_at, drop_at, length-take-le, eqb→eq, ltb→lt, ltb-false}
use Rattle.std.proofs.Math.Logic.{⊎_elim}
use Rattle.std.proofs.Math.Bool.{true, false}
use Rattle.std.proofs.Math.Option.{Option, none, some}
use mathlib.Core.List.Memᴰ
use mathlib.Core.List.{List, [], ◌∷◌, ◌++◌, append_assoc}
use Rattle.std.proofs.Math.ListN.{replicate}
use Rattle.std.proofs.Math.Seq.{take-length, drop-length, take-append_seam, drop-append_seam}
use Rattle.format.specs.Bytes.{Bytes}
use Rattle.format.specs.Ids.{root_id, is_directory_id}
use Rattle.volume.specs.Lists.{all}
use Rattle.volume.specs.View.{by_bytes}
use Rattle.volume.specs.Counting.{Volume, inode_of}
use Rattle.volume.specs.Contents.{file_blocks, text_of}
use Rattle.volume.specs.Listing.{Line, shown, deeper, digit, digits_within, decimal, printed, broken_word, deeper_word, line_of, name_of, size_word, words_of, line_text, tree_text}
use Rattle.calls.specs.Mount.{volume, mount_number}
use Rattle.calls.specs.Tree.{attempt_tree, tree_answer, in_front, buffer_with}
use Rattle.calls.specs.declared.Descriptor.{Descriptor}
use Rattle.volume_laws.specs.Lists.{all_mem}
use Rattle.volume_laws.specs.Tests.{true→T, eqb_differ, eqb_false}
use Rattle.tree_told.specs.Words.{depth_of, line_of_inode, reads_as, Decimal, PrintedAs, nothing, newline, other, LineSays, TextTold, TreeCall}
use Rattle.tree_told.specs.Text.{OneLine}

-- ---- decimal

reads_append : (n : ℕ) (l : Bytes) (d : ℕ) → reads_as n (l ++ (d ∷ [])) ≡ reads_as n l * 10 + (d - 48)
unfolding reads_as
reads_append n [] d = refl
reads_append n (e ∷ l) d = reads_append (n * 10 + (e - 48)) l d

one_digit : (n : ℕ) → n < 10 → Decimal n (digit n)
unfolding reads_as
one_digit n h = record {
  number = omega arith;
  each = λ d m. let e = Memᴰ.eq_of_singleton m in (omega (arith, e), omega (arith, e));
  front = 48 + n;
  rest = [];
  some_digit = refl;
  no_zero = λ e. (omega arith, refl);
}

more_digits : (n : ℕ) (l : Bytes) → 10 ≤ n → Decimal (n / 10) l → Decimal n (l ++ digit (n % 10))
more_digits n l h d = record {
  number = reads_append 0 l (48 + n % 10) ∙ omega (arith, d.number);
  each = λ e m. ⊎_elim (d.each e) (λ m. let q = Memᴰ.eq_of_singleton m in (omega (arith, q), omega (arith, q))) (Memᴰ.append_cases l m);
  front = d.front;
  rest = d.rest ++ digit (n % 10);
  some_digit = ap (λ l. l ++ digit (n % 10)) d.some_digit;
  no_zero = λ e. absurd (omega (arith, h, (d.no_zero e).0));
}

within_decimal : (k n : ℕ) → n ≤ k → Decimal n (digits_within (suc k) n)
unfolding digits_within
within_decimal zero n h = let e : n ≡ 0 = omega arith in rw e (one_digit 0 (omega arith))
within_decimal (suc k) n h = go (ltb n 10) refl (within_decimal k (n / 10))
  where
    go : (b : Bool) → ltb n 10 ≡ b → (n / 10 ≤ k → Decimal (n / 10) (digits_within (suc k) (n / 10)))
        → Decimal n (cond b (digit n) (digits_within (suc k) (n / 10) ++ digit (n % 10)))
    go true e ih = one_digit n (ltb→lt n 10 (true→T e))
    go false e ih = let l = ltb-false n 10 e in more_digits n _ l (ih (omega arith))

pub decimal_right : (n : ℕ) → Decimal n (decimal n)
unfolding decimal
decimal_right n = within_decimal n n (omega arith)

-- ---- names

printed_as : (l : Bytes) → PrintedAs l (printed l)
printed_as [] = nothing
printed_as (b ∷ l) = go (eqb b 10) refl (printed_as l)
  where
    go : (t : Bool) → eqb b 10 ≡ t → PrintedAs l (printed l) → PrintedAs (b ∷ l) (cond t 47 b ∷ printed l)
    go true e p = let q = eqb→eq b 10 (true→T e) in rw q (newline p)
    go false e p = other (eqb_false b 10 e) p

-- ---- no newline inside a line

both_one : (l m : Bytes) → OneLine l → OneLine m → OneLine (l ++ m)
both_one l m h k n = ⊎_elim h k (Memᴰ.append_cases l n)

spaces_one : (n : ℕ) → OneLine (replicate n 32)
spaces_one zero m = Memᴰ.not-nil m
spaces_one (suc n) m = ⊎_elim (λ e. omega (arith, e)) (spaces_one n) (Memᴰ.cases_cons m)

printed_one : (l m : Bytes) → PrintedAs l m → OneLine m
printed_one (_ ∷ _) [] m n = elim m [ ]
printed_one [] [] nothing n = Memᴰ.not-nil n
printed_one l (b ∷ m) (newline {l = k} p) n = ⊎_elim (λ e. omega (arith, e)) (printed_one k m p) (Memᴰ.cases_cons n)
printed_one l (b ∷ m) (other {l = k} q p) n = ⊎_elim (λ e. q (sym e)) (printed_one k m p) (Memᴰ.cases_cons n)

decimal_one : (n : ℕ) → OneLine (decimal n)
decimal_one n m = omega (arith, ((decimal_right n).each 10 m).0)

word_one : OneLine broken_word × OneLine deeper_word
unfolding all
word_one = (λ m. keep_out broken_word tt m, λ m. keep_out deeper_word tt m)
  where
    keep_out : (l : Bytes) → T (all (λ b. not (eqb b 10)) l) → OneLine l
    keep_out l t m = all_mem (λ b. not (eqb b 10)) l t m

-- ---- a volume

module _ (v : Volume Bytes) where
  -- of a file a space, and its size or `broken`
  abbrev size_part : ℕ → Bytes
  size_part i = cond (is_directory_id i) [] (32 ∷ size_word by_bytes (file_blocks by_bytes v i))

  says : (i : ℕ) (r : Bytes) → i ≢ root_id → inode_of by_bytes v i ≡ some r → LineSays v i (by_bytes.name r) (line_text by_bytes v (line_of_inode v i))
  unfolding line_of words_of name_of
  says i r n e = record {
    printed = printed (by_bytes.name r);
    as_printed = printed_as (by_bytes.name r);
    size = size_part i;
    line_is =
        let q : name_of by_bytes v i ≡ by_bytes.name r = rw (name_of, e) in
        rw (line_of, words_of, eqb_differ i root_id n, q)
        (append_assoc (replicate (depth_of v i) 32) (printed (by_bytes.name r) ++ size_part i) (10 ∷ [])
        ∙ ap (λ l. replicate (depth_of v i) 32 ++ l) (append_assoc (printed (by_bytes.name r)) (size_part i) (10 ∷ [])));
    directory = λ d. rw d;
    file = λ d bs q. (decimal (length (text_of by_bytes bs)), rw (d, q), decimal_right (length (text_of by_bytes bs)));
    broken = λ d q. rw (d, q);
  }

  size_one : (o : Option (List Bytes)) → OneLine (size_word by_bytes o)
  size_one none = word_one.0
  size_one (some bs) = decimal_one (length (text_of by_bytes bs))

  words_one : (i : ℕ) → OneLine (words_of by_bytes v i)
  unfolding words_of
  words_one i = go (eqb i root_id) (is_directory_id i)
    where
      after : (b : Bool) → OneLine (cond b [] (32 ∷ size_word by_bytes (file_blocks by_bytes v i)))
      after true m = Memᴰ.not-nil m
      after false m = ⊎_elim (λ e. omega (arith, e)) (size_one (file_blocks by_bytes v i)) (Memᴰ.cases_cons m)

      go : (a b : Bool) → OneLine (cond a (47 ∷ []) (printed (name_of by_bytes v i) ++ cond b [] (32 ∷ size_word by_bytes (file_blocks by_bytes v i))))
      go true b m = omega (arith, Memᴰ.eq_of_singleton m)
      go false b m = both_one (printed (name_of by_bytes v i)) _ (printed_one (name_of by_bytes v i) _ (printed_as (name_of by_bytes v i))) (after b) m

  line_ends : (l : Line) → (front : Bytes) × (line_text by_bytes v l ≡ front ++ (10 ∷ [])) × OneLine front
  unfolding line_of
  line_ends (shown d i) = (
    replicate d 32 ++ words_of by_bytes v i,
    refl,
    both_one (replicate d 32) (words_of by_bytes v i) (spaces_one d) (words_one i),
  )
  line_ends deeper = (
    replicate 65 32 ++ deeper_word,
    refl,
    both_one (replicate 65 32) deeper_word (spaces_one 65) word_one.1,
  )

  pub text_told : TextTold v (tree_text by_bytes v)
  unfolding tree_text line_of words_of
  text_told = record {
    says = line_text by_bytes v;
    joined_lines = refl;
    root = refl;
    inodes = says;
    cut = refl;
    ends = line_ends;
  }

-- ---- the call

-- as much of a text as fits
front_fits : (buffer text : Bytes) → let n = min (length buffer) (length text) in
    (take n (in_front buffer text) ≡ take n text) × (drop n (in_front buffer text) ≡ drop n buffer)
unfolding in_front
front_fits buffer text = go (ltb (length text) (length buffer)) refl
  where
    go : (b : Bool) → ltb (length text) (length buffer) ≡ b → let n = min (length buffer) (length text) in
        (take n (take (length buffer) text ++ drop (length text) buffer) ≡ take n text)
        × (drop n (take (length buffer) text ++ drop (length text) buffer) ≡ drop n buffer)
    go true e =
        let l = ltb→lt (length text) (length buffer) (true→T e) in
        let n : min (length buffer) (length text) ≡ length text = omega arith in
        rw (n, take_all (length buffer) text (omega arith))
        (take-append_seam text (drop (length text) buffer) ∙ sym (take-length text), drop-append_seam text (drop (length text) buffer))
    go false e =
        let l = ltb-false (length text) (length buffer) e in
        let n : min (length buffer) (length text) ≡ length buffer = omega arith in
        let long = length-take-le (length buffer) text (omega arith) in
        rw n (
          take_at (take (length buffer) text) (drop (length text) buffer) (length buffer) long,
          drop_at (take (length buffer) text) (drop (length text) buffer) (length buffer) long
              ∙ drop_of_length-le buffer {i = length text} (omega arith) ∙ sym (drop-length buffer),
        )

pub call_told : (image : Bytes) (ds : List Descriptor) (buffer : Bytes)
    → TreeCall image ds buffer (tree_answer (attempt_tree image ds)) (buffer_with buffer (attempt_tree image ds))
unfolding tree_answer attempt_tree buffer_with
call_told image ds buffer = go (eqb (mount_number image ds) 0) refl
  where
    go : (b : Bool) → eqb (mount_number image ds) 0 ≡ b
        → TreeCall image ds buffer (tree_answer (attempt_tree image ds)) (buffer_with buffer (attempt_tree image ds))
    go true e = rw e (record {
      number = sym (eqb→eq (mount_number image ds) 0 (true→T e));
      refused = λ n. absurd (n refl);
      whole = λ z. refl;
      front = λ z. front_fits buffer (tree_text by_bytes (volume image ds));
    })
    go false e = rw e (record {
      number = refl;
      refused = λ n. (refl, refl);
      whole = λ z. absurd (eqb_false (mount_number image ds) 0 e z);
      front = λ z. absurd (eqb_false (mount_number image ds) 0 e z);
    })
