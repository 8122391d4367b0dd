-- The reader finds the words that a text spells.
use Rattle.std.proofs.Common.{◌≡◌, ℕ, zero, suc, true, false, List, [], ◌∷◌, ◌++◌, length, take, drop, refl, sym, ap, ◌∙◌, arith, inl, inr, subst}
use Rattle.std.specs.Prelude.{slice_index_or}
use Rattle.std.specs.List.{All}
use Rattle.std.proofs.lemmas.Bool.{cases_Bool}
use Rattle.std.proofs.lemmas.Bool.Decides.{nat_tests}
use Rattle.std.proofs.lemmas.List.Elements.{All-cons, All-head, All-nil, All-tail}
use Rattle.std.proofs.Math.Seq.{take-append_seam, drop-append_seam}
use Rattle.script_lines.specs.Words.{is_space, skip_blanks, word_length, first_word, after_word, nth_word}
use Rattle.script_lines.specs.Spellings.{IsBlank, AreBlanks, IsWord, IsApart, BeginsWithWord, IsMadeOfWords}
use Rattle.script_lines.specs.Laws.{SomeWordsLaw, OneSpellingLaw, WordLaw}

abbrev NoBlank : ℕ → Type 0
NoBlank byte = IsBlank byte → ⊥

-- what the reader's test means
is_one : (b : ℕ) → IsBlank b → is_space b ≡ true
is_one b (inl space) = rw space refl
is_one b (inr tab) = rw tab refl

no_clash : {A : Type 0} → true ≡ false → A
no_clash h = cc

blank_of : (b : ℕ) → is_space b ≡ true → IsBlank b
blank_of b one = grind (arith, nat_tests, one)

none_of : (b : ℕ) → is_space b ≡ false → NoBlank b
none_of b other blank = no_clash (sym (is_one b blank) ∙ other)

is_none : (b : ℕ) → NoBlank b → is_space b ≡ false
is_none b none =
    elim (cases_Bool (is_space b)) [
      | inl one ↦ absurd (none (blank_of b one))
      | inr other ↦ other
    ]

-- Blanks in front are skipped,
skip_gap : (gap rest : List ℕ) → AreBlanks gap → skip_blanks (gap ++ rest) ≡ skip_blanks rest
skip_gap [] rest all = refl
skip_gap (b ∷ bs) rest all =
    let here = is_one b (All-head IsBlank b bs all) in
    rw here (skip_gap bs rest (All-tail IsBlank b bs all))

skip_all : (gap : List ℕ) → AreBlanks gap → skip_blanks gap ≡ []
skip_all [] all = refl
skip_all (b ∷ bs) all =
    let here = is_one b (All-head IsBlank b bs all) in
    rw here (skip_all bs (All-tail IsBlank b bs all))

-- a word is not,
skip_none : (w rest : List ℕ) → IsWord w → skip_blanks (w ++ rest) ≡ w ++ rest
skip_none [] rest is = absurd (omega (arith, is.0))
skip_none (b ∷ bs) rest is =
    let here = is_none b (All-head NoBlank b bs is.1) in
    rw here refl

-- and a word ends where the rest begins.
ends_there : (rest : List ℕ) → IsApart rest → word_length rest ≡ 0
ends_there [] apart = refl
ends_there (b ∷ bs) apart =
    let here = is_one b (apart (omega arith)) in
    rw here refl

ends_behind : (w rest : List ℕ) → All NoBlank w → IsApart rest → word_length (w ++ rest) ≡ length w
ends_behind [] rest all apart = ends_there rest apart
ends_behind (b ∷ bs) rest all apart =
    let here = is_none b (All-head NoBlank b bs all) in
    let later = ends_behind bs rest (All-tail NoBlank b bs all) apart in
    rw here (ap suc later)

-- So the first word and the rest are found.
skipped : (text w rest : List ℕ) → BeginsWithWord text w rest → skip_blanks text ≡ w ++ rest
skipped text w rest b = ap skip_blanks b.is ∙ skip_gap b.gap (w ++ rest) b.blanks ∙ skip_none w rest b.is_word

pub first_is : (text w rest : List ℕ) → BeginsWithWord text w rest → first_word text ≡ w
first_is text w rest b =
    ap (λ s. take (word_length s) s) (skipped text w rest b)
    ∙ ap (λ n. take n (w ++ rest)) (ends_behind w rest b.is_word.1 b.apart) ∙ take-append_seam w rest

pub after_is : (text w rest : List ℕ) → BeginsWithWord text w rest → after_word text ≡ rest
after_is text w rest b =
    ap (λ s. drop (word_length s) s) (skipped text w rest b)
    ∙ ap (λ n. drop n (w ++ rest)) (ends_behind w rest b.is_word.1 b.apart) ∙ drop-append_seam w rest

-- Where only blanks are left, there is no word.
pub none_first : (text : List ℕ) → AreBlanks text → first_word text ≡ []
none_first text all = ap (λ s. take (word_length s) s) (skip_all text all)

none_after : (text : List ℕ) → AreBlanks text → after_word text ≡ []
none_after text all = ap (λ s. drop (word_length s) s) (skip_all text all)

no_word : (k : ℕ) → nth_word k [] ≡ []
no_word zero = refl
no_word (suc k) = no_word k

none_found : (text : List ℕ) → AreBlanks text → (k : ℕ) → nth_word k text ≡ []
none_found text all zero = none_first text all
none_found text all (suc k) = ap (nth_word k) (none_after text all) ∙ no_word k

nothing_there : (k : ℕ) → slice_index_or {A = List ℕ} [] k [] ≡ []
nothing_there k = refl

word_law_of : (words : List (List ℕ)) (text : List ℕ) → IsMadeOfWords words text → (k : ℕ) → nth_word k text ≡ slice_index_or words k []
word_law_of [] text spells k = none_found text spells k
word_law_of (w ∷ ws) text spells zero = first_is text w spells.0 spells.1
word_law_of (w ∷ ws) text spells (suc k) =
    ap (nth_word k) (after_is text w spells.0 spells.1) ∙ word_law_of ws spells.0 spells.2 k

pub word_law : WordLaw
word_law text words spells k = word_law_of words text spells k

-- A text spells one list of words.
not_both : (text w rest : List ℕ) → AreBlanks text → BeginsWithWord text w rest → ⊥
not_both text w rest all b =
    let none : w ≡ [] = sym (first_is text w rest b) ∙ none_first text all in
    omega (arith, ap length none, b.is_word.0)

one_spelling_of : (words others : List (List ℕ)) (text : List ℕ) → IsMadeOfWords words text → IsMadeOfWords others text → words ≡ others
one_spelling_of [] [] text a b = refl
one_spelling_of [] (v ∷ vs) text a b = absurd (not_both text v b.0 a b.1)
one_spelling_of (w ∷ ws) [] text a b = absurd (not_both text w a.0 b a.1)
one_spelling_of (w ∷ ws) (v ∷ vs) text a b =
    let nth_word : w ≡ v = sym (first_is text w a.0 a.1) ∙ first_is text v b.0 b.1 in
    let rest : b.0 ≡ a.0 = sym (after_is text v b.0 b.1) ∙ after_is text w a.0 a.1 in
    let same : ws ≡ vs = one_spelling_of ws vs a.0 a.2 (rw rest at b.2) in
    ap (λ x. x ∷ ws) nth_word ∙ ap (λ l. v ∷ l) same

pub one_spelling_law : OneSpellingLaw
one_spelling_law text words others a b = one_spelling_of words others text a b

-- Every text spells words, byte by byte from its end.
abbrev Spelled : List ℕ → Type 0
Spelled text = (words : List (List ℕ)) × IsMadeOfWords words text

with_blank : (b : ℕ) (bs : List ℕ) (words : List (List ℕ)) → IsBlank b → IsMadeOfWords words bs → IsMadeOfWords words (b ∷ bs)
with_blank b bs [] blank spells = All-cons IsBlank b bs blank spells
with_blank b bs (w ∷ ws) blank spells = (
  spells.0,
  record {
    gap = b ∷ spells.1.gap;
    is = ap (λ l. b ∷ l) spells.1.is;
    blanks = All-cons IsBlank b spells.1.gap blank spells.1.blanks;
    is_word = spells.1.is_word;
    apart = spells.1.apart;
  },
  spells.2,
)

-- a word of this byte alone
alone : (b : ℕ) (bs : List ℕ) (words : List (List ℕ)) → NoBlank b → IsApart bs → IsMadeOfWords words bs → Spelled (b ∷ bs)
alone b bs words other apart spells = (
  (b ∷ []) ∷ words,
  (
    bs,
    record {
      gap = [];
      is = refl;
      blanks = All-nil IsBlank;
      is_word = (omega arith, All-cons NoBlank b [] other (All-nil NoBlank));
      apart = apart;
    },
    spells,
  ),
)

-- the byte in front of the first word
longer : (b c : ℕ) (cs gap w rest : List ℕ) (ws : List (List ℕ)) → NoBlank b → NoBlank c
    → c ∷ cs ≡ gap ++ (w ++ rest) → AreBlanks gap → IsWord w → IsApart rest → IsMadeOfWords ws rest → Spelled (b ∷ c ∷ cs)
longer b c cs [] w rest ws other next is blanks nth_word apart spells = (
  (b ∷ w) ∷ ws,
  (
    rest,
    record {
      gap = [];
      is = ap (λ l. b ∷ l) is;
      blanks = All-nil IsBlank;
      is_word = (omega arith, All-cons NoBlank b w other nth_word.1);
      apart = apart;
    },
    spells,
  ),
)
longer b c cs (g ∷ gs) w rest ws other next is blanks nth_word apart spells =
    let same : g ≡ c = cc in
    absurd (next (subst IsBlank same (All-head IsBlank g gs blanks)))

joined : (b c : ℕ) (cs : List ℕ) (words : List (List ℕ)) → NoBlank b → NoBlank c → IsMadeOfWords words (c ∷ cs) → Spelled (b ∷ c ∷ cs)
joined b c cs [] other next spells =
    absurd (next (All-head IsBlank c cs spells))
joined b c cs (w ∷ ws) other next spells =
    longer b c cs spells.1.gap w spells.0 ws other next spells.1.is spells.1.blanks spells.1.is_word spells.1.apart spells.2

in_front : (b : ℕ) (bs : List ℕ) → NoBlank b → Spelled bs → Spelled (b ∷ bs)
in_front b [] other spelled = alone b [] spelled.0 other (λ some. absurd (omega (arith, some))) spelled.1
in_front b (c ∷ cs) other spelled =
    elim (cases_Bool (is_space c)) [
      | inl one ↦ alone b (c ∷ cs) spelled.0 other (λ some. blank_of c one) spelled.1
      | inr next ↦ joined b c cs spelled.0 other (none_of c next) spelled.1
    ]

pub some_words_law : SomeWordsLaw
some_words_law [] = ([], All-nil IsBlank)
some_words_law (b ∷ bs) =
    let later = some_words_law bs in
    elim (cases_Bool (is_space b)) [
      | inl one ↦ (later.0, with_blank b bs later.0 (blank_of b one) later.1)
      | inr other ↦ in_front b bs (none_of b other) later
    ]

pub ruleset of_words = (some_words_law, one_spelling_law, word_law)
