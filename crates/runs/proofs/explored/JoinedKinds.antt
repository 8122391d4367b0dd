-- What two parts found, one behind the other, is what one finds that goes on where the other ends.
use Rattle.std.proofs.Common.{◌≡◌, ℕ, ◌<◌, ◌+◌, ◌%◌, ◌^◌, Bool, true, false, ◌||◌, List, [], ◌∷◌, ◌++◌, cond, refl, sym, ap, subst, ◌∙◌, arith}
use Rattle.std.proofs.Math.Nat.{mod-add-mod, add-mod-mod}
use Rattle.std.proofs.lemmas.Bool.{false≢true}
use Rattle.std.proofs.lemmas.List.Folds.{list_any-append}
use Rattle.std.proofs.lemmas.List.Sums.{fold-append}
use Rattle.std.proofs.lemmas.Slice.Eq.{bytes_eq-Decides}
use Rattle.std.specs.List.{fold, list_any}
use Rattle.std.specs.Str.{bytes_eq}
use Rattle.tool.specs.Scripts.{script_lines}
use Rattle.runs.specs.Alphabets.{with_line}
use Rattle.runs.specs.Findings.{kind_text, is_wanted, with_kind, with_printed, noting_try, seen_again, first_seen}
use Rattle.runs.specs.Merges.{with_counted}
use Rattle.runs.specs.declared.explored.kinds.Kind.{Kind}
use Rattle.runs.specs.declared.explored.tries.Try.{Try}

pub same_bytes : (xs : List ℕ) → bytes_eq xs xs ≡ true
same_bytes xs = (bytes_eq-Decides xs xs).1 refl

bytes_same : (xs ys : List ℕ) → bytes_eq xs ys ≡ true → xs ≡ ys
bytes_same xs ys is = (bytes_eq-Decides xs ys).0 is

abbrev counted : Kind → Kind → Kind
counted kind more = record { text = kind.text; times = (kind.times + more.times) % 2 ^ 64; list = kind.list }

-- sums within 64 bits
later_one : (a b : ℕ) → ((a + b) % 2 ^ 64 + 1) % 2 ^ 64 ≡ (a + (b + 1) % 2 ^ 64) % 2 ^ 64
later_one a b =
    mod-add-mod (a + b) (2 ^ 64) 1
    ∙ ap (λ n. n % 2 ^ 64) (omega arith)
    ∙ sym (add-mod-mod a (b + 1) (2 ^ 64))

sooner_one : (a b : ℕ) → ((a + b) % 2 ^ 64 + 1) % 2 ^ 64 ≡ ((a + 1) % 2 ^ 64 + b) % 2 ^ 64
sooner_one a b =
    mod-add-mod (a + b) (2 ^ 64) 1
    ∙ ap (λ n. n % 2 ^ 64) (omega arith)
    ∙ sym (mod-add-mod (a + 1) (2 ^ 64) b)

pub three : (a b c : ℕ) → ((a + b) % 2 ^ 64 + c) % 2 ^ 64 ≡ (a + (b + c) % 2 ^ 64) % 2 ^ 64
three a b c =
    mod-add-mod (a + b) (2 ^ 64) c
    ∙ ap (λ n. n % 2 ^ 64) (omega arith)
    ∙ sym (add-mod-mod a (b + c) (2 ^ 64))

timed : Kind → ℕ → Kind
timed kind times = record { text = kind.text; times = times; list = kind.list }

abbrev has : List ℕ → List Kind → Bool
has text kinds = list_any (λ kind. bytes_eq kind.text text) kinds

-- a kind that is there is seen again there, before others are counted or behind them
seen_there : (kinds : List Kind) (more : Kind) (text list : List ℕ) → has text kinds ≡ true
    → with_kind (with_counted kinds more) text list ≡ with_counted (with_kind kinds text list) more
seen_there [] more text list there = absurd (false≢true there)
seen_there (kind ∷ kinds) more text list there =
    at (bytes_eq kind.text text) (bytes_eq kind.text more.text) refl refl (seen_there kinds more text list) there
  where
    at : (p q : Bool) → bytes_eq kind.text text ≡ p → bytes_eq kind.text more.text ≡ q
        → (has text kinds ≡ true → with_kind (with_counted kinds more) text list ≡ with_counted (with_kind kinds text list) more)
        → (p || has text kinds) ≡ true
        → with_kind (with_counted (kind ∷ kinds) more) text list ≡ with_counted (with_kind (kind ∷ kinds) text list) more
    at true true p q behind there =
        let left : with_kind (with_counted (kind ∷ kinds) more) text list ≡ seen_again (counted kind more) ∷ kinds =
        ap (λ t. with_kind (cond t (counted kind more ∷ kinds) (kind ∷ with_counted kinds more)) text list) q
        ∙ ap (λ t. cond t (seen_again (counted kind more) ∷ kinds) (counted kind more ∷ with_kind kinds text list)) p in
        let right : with_counted (with_kind (kind ∷ kinds) text list) more ≡ counted (seen_again kind) more ∷ kinds =
        ap (λ t. with_counted (cond t (seen_again kind ∷ kinds) (kind ∷ with_kind kinds text list)) more) p
        ∙ ap (λ t. cond t (counted (seen_again kind) more ∷ kinds) (seen_again kind ∷ with_counted kinds more)) q in
        left
        ∙ ap (λ n. record { text = kind.text; times = n; list = kind.list } ∷ kinds) (sooner_one kind.times more.times)
        ∙ sym right
    at true false p q behind there =
        let left : with_kind (with_counted (kind ∷ kinds) more) text list ≡ seen_again kind ∷ with_counted kinds more =
        ap (λ t. with_kind (cond t (counted kind more ∷ kinds) (kind ∷ with_counted kinds more)) text list) q
        ∙ ap (λ t. cond t (seen_again kind ∷ with_counted kinds more) (kind ∷ with_kind (with_counted kinds more) text list)) p in
        let right : with_counted (with_kind (kind ∷ kinds) text list) more ≡ seen_again kind ∷ with_counted kinds more =
        ap (λ t. with_counted (cond t (seen_again kind ∷ kinds) (kind ∷ with_kind kinds text list)) more) p
        ∙ ap (λ t. cond t (counted (seen_again kind) more ∷ kinds) (seen_again kind ∷ with_counted kinds more)) q in
        left ∙ sym right
    at false true p q behind there =
        let left : with_kind (with_counted (kind ∷ kinds) more) text list ≡ counted kind more ∷ with_kind kinds text list =
        ap (λ t. with_kind (cond t (counted kind more ∷ kinds) (kind ∷ with_counted kinds more)) text list) q
        ∙ ap (λ t. cond t (seen_again (counted kind more) ∷ kinds) (counted kind more ∷ with_kind kinds text list)) p in
        let right : with_counted (with_kind (kind ∷ kinds) text list) more ≡ counted kind more ∷ with_kind kinds text list =
        ap (λ t. with_counted (cond t (seen_again kind ∷ kinds) (kind ∷ with_kind kinds text list)) more) p
        ∙ ap (λ t. cond t (counted kind more ∷ with_kind kinds text list) (kind ∷ with_counted (with_kind kinds text list) more)) q in
        left ∙ sym right
    at false false p q behind there =
        let left : with_kind (with_counted (kind ∷ kinds) more) text list ≡ kind ∷ with_kind (with_counted kinds more) text list =
        ap (λ t. with_kind (cond t (counted kind more ∷ kinds) (kind ∷ with_counted kinds more)) text list) q
        ∙ ap (λ t. cond t (seen_again kind ∷ with_counted kinds more) (kind ∷ with_kind (with_counted kinds more) text list)) p in
        let right : with_counted (with_kind (kind ∷ kinds) text list) more ≡ kind ∷ with_counted (with_kind kinds text list) more =
        ap (λ t. with_counted (cond t (seen_again kind ∷ kinds) (kind ∷ with_kind kinds text list)) more) p
        ∙ ap (λ t. cond t (counted kind more ∷ with_kind kinds text list) (kind ∷ with_counted (with_kind kinds text list) more)) q in
        left ∙ ap (λ ks. kind ∷ ks) (behind there) ∙ sym right

-- what is there stays there
stays : (kinds : List Kind) (more : Kind) (text : List ℕ) → has text kinds ≡ true → has text (with_counted kinds more) ≡ true
stays [] more text there = absurd (false≢true there)
stays (kind ∷ kinds) more text there = at (bytes_eq kind.text text) (bytes_eq kind.text more.text) refl (stays kinds more text) there
  where
    at : (p q : Bool) → bytes_eq kind.text text ≡ p → (has text kinds ≡ true → has text (with_counted kinds more) ≡ true)
        → (p || has text kinds) ≡ true
        → has text (cond q (counted kind more ∷ kinds) (kind ∷ with_counted kinds more)) ≡ true
    at true true p behind there = ap (λ t. t || has text kinds) p
    at true false p behind there = ap (λ t. t || has text (with_counted kinds more)) p
    at false true p behind there = ap (λ t. t || has text kinds) p ∙ there
    at false false p behind there = ap (λ t. t || has text (with_counted kinds more)) p ∙ behind there

-- what is counted is there
now_there : (kinds : List Kind) (more : Kind) → has more.text (with_counted kinds more) ≡ true
now_there [] more = ap (λ t. t || false) (same_bytes more.text)
now_there (kind ∷ kinds) more = at (bytes_eq kind.text more.text) refl (now_there kinds more)
  where
    at : (q : Bool) → bytes_eq kind.text more.text ≡ q → has more.text (with_counted kinds more) ≡ true
        → has more.text (cond q (counted kind more ∷ kinds) (kind ∷ with_counted kinds more)) ≡ true
    at true q behind = ap (λ t. t || has more.text kinds) q
    at false q behind = ap (λ t. t || has more.text (with_counted kinds more)) q ∙ behind

seen_before : (more kinds : List Kind) (text list : List ℕ) → has text kinds ≡ true
    → with_kind (fold with_counted kinds more) text list ≡ fold with_counted (with_kind kinds text list) more
seen_before [] kinds text list there = refl
seen_before (kind ∷ more) kinds text list there =
    seen_before more (with_counted kinds kind) text list (stays kinds kind text there)
    ∙ ap (λ ks. fold with_counted ks more) (seen_there kinds kind text list there)

-- a kind that is counted, and seen once more
counted_again : (kinds : List Kind) (more : Kind) (list : List ℕ)
    → with_kind (with_counted kinds more) more.text list ≡ with_counted kinds (seen_again more)
counted_again [] more list = ap (λ t. cond t (seen_again more ∷ []) (more ∷ first_seen more.text list ∷ [])) (same_bytes more.text)
counted_again (kind ∷ kinds) more list = at (bytes_eq kind.text more.text) refl (counted_again kinds more list)
  where
    at : (q : Bool) → bytes_eq kind.text more.text ≡ q
        → with_kind (with_counted kinds more) more.text list ≡ with_counted kinds (seen_again more)
        → with_kind (cond q (counted kind more ∷ kinds) (kind ∷ with_counted kinds more)) more.text list
        ≡ cond q (counted kind (seen_again more) ∷ kinds) (kind ∷ with_counted kinds (seen_again more))
    at true q behind =
        ap (λ t. cond t (seen_again (counted kind more) ∷ kinds) (counted kind more ∷ with_kind kinds more.text list)) q
        ∙ ap (λ n. record { text = kind.text; times = n; list = kind.list } ∷ kinds) (later_one kind.times more.times)
    at false q behind =
        ap (λ t. cond t (seen_again kind ∷ with_counted kinds more) (kind ∷ with_kind (with_counted kinds more) more.text list)) q
        ∙ ap (λ ks. kind ∷ ks) behind

-- one that is seen for the first time is counted once
first_counted : (kinds : List Kind) (text list : List ℕ) → with_kind kinds text list ≡ with_counted kinds (first_seen text list)
first_counted [] text list = refl
first_counted (kind ∷ kinds) text list = at (bytes_eq kind.text text) (first_counted kinds text list)
  where
    at : (p : Bool) → with_kind kinds text list ≡ with_counted kinds (first_seen text list)
        → cond p (seen_again kind ∷ kinds) (kind ∷ with_kind kinds text list)
        ≡ cond p (counted kind (first_seen text list) ∷ kinds) (kind ∷ with_counted kinds (first_seen text list))
    at true behind = refl
    at false behind = ap (λ ks. kind ∷ ks) behind

-- a kind that is seen behind what two parts found
seen_behind : (more kinds : List Kind) (text list : List ℕ)
    → with_kind (fold with_counted kinds more) text list ≡ fold with_counted kinds (with_kind more text list)
seen_behind [] kinds text list = first_counted kinds text list
seen_behind (kind ∷ more) kinds text list =
    at (bytes_eq kind.text text) refl (seen_behind more (with_counted kinds kind) text list)
  where
    at : (p : Bool) → bytes_eq kind.text text ≡ p
        → with_kind (fold with_counted (with_counted kinds kind) more) text list ≡ fold with_counted (with_counted kinds kind) (with_kind more text list)
        → with_kind (fold with_counted (with_counted kinds kind) more) text list
        ≡ fold with_counted kinds (cond p (seen_again kind ∷ more) (kind ∷ with_kind more text list))
    at true p behind =
        let is : kind.text ≡ text = bytes_same kind.text text p in
        let there : has text (with_counted kinds kind) ≡ true =
        subst (λ t. has t (with_counted kinds kind) ≡ true) is (now_there kinds kind) in
        seen_before more (with_counted kinds kind) text list there
        ∙ ap (λ ks. fold with_counted ks more)
        (ap (λ t. with_kind (with_counted kinds kind) t list) (sym is) ∙ counted_again kinds kind list)
    at false p behind = behind

lines_behind : (find list : List ℕ) (lines : List (List ℕ)) (kinds more : List Kind)
    → fold (with_printed find list) (fold with_counted kinds more) lines ≡ fold with_counted kinds (fold (with_printed find list) more lines)
lines_behind find list [] kinds more = refl
lines_behind find list (line ∷ lines) kinds more =
    ap (λ ks. fold (with_printed find list) ks lines) (at (is_wanted find (kind_text line)))
    ∙ lines_behind find list lines kinds (with_printed find list more line)
  where
    at : (t : Bool)
        → cond t (with_kind (fold with_counted kinds more) (kind_text line) list) (fold with_counted kinds more)
        ≡ fold with_counted kinds (cond t (with_kind more (kind_text line) list) more)
    at true = seen_behind more kinds (kind_text line) list
    at false = refl

pub tries_behind : (find : List ℕ) (tries : List Try) (kinds more : List Kind)
    → fold (noting_try find) (fold with_counted kinds more) tries ≡ fold with_counted kinds (fold (noting_try find) more tries)
tries_behind find [] kinds more = refl
tries_behind find (try ∷ tries) kinds more =
    ap (λ ks. fold (noting_try find) ks tries) (lines_behind find try.list (script_lines try.answer) kinds more)
    ∙ tries_behind find tries kinds (noting_try find more try)

-- lines, each once
abbrev holds : List ℕ → List (List ℕ) → Bool
holds line lines = list_any (λ other. bytes_eq other line) lines

held_more : (lines : List (List ℕ)) (line other : List ℕ) → holds line lines ≡ true → holds line (with_line lines other) ≡ true
held_more lines line other held = at (holds other lines)
  where
    at : (t : Bool) → holds line (cond t lines (lines ++ other ∷ [])) ≡ true
    at true = held
    at false = list_any-append (λ o. bytes_eq o line) lines (other ∷ []) ∙ ap (λ t. t || holds line (other ∷ [])) held

held_now : (lines : List (List ℕ)) (line : List ℕ) → holds line (with_line lines line) ≡ true
held_now lines line = at (holds line lines) refl
  where
    at : (t : Bool) → holds line lines ≡ t → holds line (cond t lines (lines ++ line ∷ [])) ≡ true
    at true is = is
    at false is =
        list_any-append (λ o. bytes_eq o line) lines (line ∷ [])
        ∙ ap (λ t. t || (bytes_eq line line || false)) is
        ∙ ap (λ t. t || false) (same_bytes line)

held_on : (more lines : List (List ℕ)) (line : List ℕ) → holds line lines ≡ true → holds line (fold with_line lines more) ≡ true
held_on [] lines line held = held
held_on (other ∷ more) lines line held = held_on more (with_line lines other) line (held_more lines line other held)

held_of : (more lines : List (List ℕ)) (line : List ℕ) → holds line more ≡ true → holds line (fold with_line lines more) ≡ true
held_of [] lines line held = absurd (false≢true held)
held_of (other ∷ more) lines line held = at (bytes_eq other line) refl (held_of more (with_line lines other) line) held
  where
    at : (t : Bool) → bytes_eq other line ≡ t
        → (holds line more ≡ true → holds line (fold with_line (with_line lines other) more) ≡ true)
        → (t || holds line more) ≡ true → holds line (fold with_line (with_line lines other) more) ≡ true
    at true is behind held =
        held_on more (with_line lines other) line
        (subst (λ l. holds l (with_line lines other) ≡ true) (bytes_same other line is) (held_now lines other))
    at false is behind held = behind held

pub line_behind : (more lines : List (List ℕ)) (line : List ℕ)
    → with_line (fold with_line lines more) line ≡ fold with_line lines (with_line more line)
line_behind more lines line = at (holds line more) refl
  where
    at : (t : Bool) → holds line more ≡ t
        → with_line (fold with_line lines more) line ≡ fold with_line lines (cond t more (more ++ line ∷ []))
    at true is =
        ap (λ t. cond t (fold with_line lines more) (fold with_line lines more ++ line ∷ [])) (held_of more lines line is)
    at false is = sym (fold-append with_line lines more (line ∷ []))
