-- A Get of columns as most are written is read as what it says, and asks for its columns.
use Rattle.std.proofs.Common.{◌≡◌, ℕ, ◌<◌, ◌≤◌, Bool, true, false, List, [], ◌∷◌, ◌++◌, length, Some, Ok, refl, sym, subst, ap, ◌∙◌, arith, rules}
use Rattle.std.specs.Prelude.{◌≢◌, ◌^◌, nat_le, nat_lt}
use Rattle.std.proofs.lemmas.Bool.{le-leb, lt-ltb}
use Rattle.std.proofs.lemmas.List.{append-nil}
use Rattle.basics.specs.declared.profile.Profile.{Profile}
use Rattle.basics.specs.declared.profile.Profile.TheVariants.{Base, Field, Opal}
use Rattle.sp_cells.specs.declared.names.Uid.{Uid}
use Rattle.sp_cells.specs.declared.names.Sp.{Sp}
use Rattle.sp_cells.specs.declared.names.Sp.TheVariants.{Admin, Locking}
use Rattle.sp_cells.specs.Names.{get, mbr_table, datastore_table}
use Rattle.tcg_tokens.specs.Grammar.{nothing}
use Rattle.tcg_tokens.specs.Spelling.{number_spelling, bytes_spelling, item_spelling_of}
use Rattle.tcg_tokens.specs.Writable.{is_writable}
use Rattle.tcg_tokens.proofs.Writings.{spelled_with_fill}
use Rattle.tcg_tokens.specs.Message.{Message, call}
use Rattle.tcg_tokens.specs.Reading.{reading}
use Rattle.tcg_tokens.proofs.Items.{all_again}
use Rattle.tcg_calls.specs.Asks.{uid_of, is_byte_table, get_of, ask_of}
use Rattle.tcg_calls.specs.Named.{values_of}
use Rattle.tcg_calls.specs.declared.call_shapes.ask.Ask.TheVariants.{GetCells}
use Rattle.methods.specs.PlainGets.{columns_named, IsPlainGet}

-- ---- it is read so

-- the bytes, with the numbers of one byte
abbrev whole : (o m : List ℕ) (x y : ℕ) → List ℕ
whole o m x y = 0xf8 ∷ 0xa8 ∷ (o ++ (0xa8 ∷ (m ++ (0xf0 ∷ 0xf0 ∷ 0xf2 ∷ 3 ∷ x ∷ 0xf3 ∷ 0xf2 ∷ 4 ∷ y ∷ 0xf3 ∷ 0xf1 ∷ 0xf1 ∷ 0xf9 ∷ 0xf0 ∷ 0 ∷ 0 ∷ 0 ∷ 0xf1 ∷ []))))

abbrev said : (o m : List ℕ) (x y : ℕ) → Message
said o m x y = call o m (columns_named x y) (0 ∷ 0 ∷ 0 ∷ [])

uid_spelled : (o : List ℕ) → length o ≡ 8 → bytes_spelling o ≡ 0xa8 ∷ o
unfolding bytes_spelling
uid_spelled o e = rw e refl

tiny_spelled : (x : ℕ) → x < 64 → number_spelling x ≡ x ∷ []
unfolding number_spelling
tiny_spelled x lt = let e : nat_lt x 64 ≡ true = lt-ltb _ _ lt in rw e refl

spelled : (o m : List ℕ) (x y : ℕ) → length o ≡ 8 → length m ≡ 8 → x < 64 → y < 64 → item_spelling_of (said o m x y) ≡ whole o m x y
spelled o m x y eo em lx ly =
    simp (uid_spelled o eo, uid_spelled m em, tiny_spelled 3 (omega arith), tiny_spelled 4 (omega arith), tiny_spelled 0 (omega arith), tiny_spelled x lx, tiny_spelled y ly)

fits : (x : ℕ) → x < 64 → nat_lt x (2 ^ 64) ≡ true
fits x lt = lt-ltb _ _ (omega arith)

can_write : (o m : List ℕ) (x y : ℕ) → x < 64 → y < 64 → is_writable (said o m x y) ≡ true
can_write o m x y lx ly = rw (fits x lx, fits y ly) refl

plain_read : (o m : List ℕ) (x y : ℕ) → length o ≡ 8 → length m ≡ 8 → x < 64 → y < 64 → reading (whole o m x y) ≡ Ok (said o m x y)
plain_read o m x y eo em lx ly =
    let text : item_spelling_of (said o m x y) ++ [] ≡ whole o m x y = append-nil _ ∙ spelled o m x y eo em lx ly in
    subst (λ (t : List ℕ). reading t ≡ Ok (said o m x y)) text
    (all_again (item_spelling_of (said o m x y) ++ []) (said o m x y) (spelled_with_fill (said o m x y) [] (eo, em, refl) (can_write o m x y lx ly) nothing))

-- ---- and asks so

no_bytes : (profile : Profile) (sp : Sp) (object : Uid) → object ≢ mbr_table → object ≢ datastore_table → is_byte_table profile sp object ≡ false
no_bytes Base Admin object h k = refl
no_bytes Field Admin object h k = refl
no_bytes Opal Admin object h k = refl
no_bytes Base Locking object h k = search rules
no_bytes Field Locking object h k = search rules
no_bytes Opal Locking object h k = search rules

get_asks : (x y : ℕ) → x ≤ y → get_of false (values_of (columns_named x y)) ≡ Some (GetCells x y)
get_asks x y h = let e : nat_le x y ≡ true = le-leb _ _ h in rw e refl

plain_asks : (object method : Uid) (x y : ℕ) → method ≡ get → object ≢ mbr_table → object ≢ datastore_table → x ≤ y
    → (profile : Profile) (sp : Sp) → ask_of profile sp object method (values_of (columns_named x y)) ≡ Some (GetCells x y)
plain_asks object method x y is h k le profile sp =
    ap (λ (m : Uid). ask_of profile sp object m (values_of (columns_named x y))) is
    ∙ ap (λ (b : Bool). get_of b (values_of (columns_named x y))) (no_bytes profile sp object h k)
    ∙ get_asks x y le

is_plain : (o m : List ℕ) (x y : ℕ) → length o ≡ 8 → length m ≡ 8 → x < 64 → y < 64 → x ≤ y
    → uid_of m ≡ get → uid_of o ≢ mbr_table → uid_of o ≢ datastore_table
    → IsPlainGet (whole o m x y) (record { object = o; method = m; first = x; last = y })
is_plain o m x y eo em lx ly le is h k = record {
  read = plain_read o m x y eo em lx ly;
  asks = plain_asks (uid_of o) (uid_of m) x y is h k le;
}

nothing_left : (t : List ℕ) → length t ≡ 0 → t ≡ []
nothing_left [] e = refl
nothing_left (b ∷ t) e = absurd (omega arith)

joined : (tokens t u v w r o m : List ℕ) (x y : ℕ) → tokens ≡ 0xf8 ∷ t → t ≡ 0xa8 ∷ (o ++ u) → u ≡ 0xa8 ∷ (m ++ v)
    → v ≡ 0xf0 ∷ 0xf0 ∷ 0xf2 ∷ 3 ∷ x ∷ 0xf3 ∷ 0xf2 ∷ 4 ∷ y ∷ 0xf3 ∷ 0xf1 ∷ w → w ≡ 0xf1 ∷ 0xf9 ∷ 0xf0 ∷ 0 ∷ 0 ∷ 0 ∷ 0xf1 ∷ r → r ≡ []
    → tokens ≡ whole o m x y
joined tokens t u v w r o m x y a b d e f g = rw (a, b, d, e, f, g) refl

-- in pieces, as the bytes are read
pub plain_as : (tokens t u v w r o m : List ℕ) (x y : ℕ) → tokens ≡ 0xf8 ∷ t → t ≡ 0xa8 ∷ (o ++ u) → u ≡ 0xa8 ∷ (m ++ v)
    → v ≡ 0xf0 ∷ 0xf0 ∷ 0xf2 ∷ 3 ∷ x ∷ 0xf3 ∷ 0xf2 ∷ 4 ∷ y ∷ 0xf3 ∷ 0xf1 ∷ w → w ≡ 0xf1 ∷ 0xf9 ∷ 0xf0 ∷ 0 ∷ 0 ∷ 0 ∷ 0xf1 ∷ r → length r ≡ 0
    → length o ≡ 8 → length m ≡ 8 → x < 64 → y < 64 → x ≤ y
    → uid_of m ≡ get → uid_of o ≢ mbr_table → uid_of o ≢ datastore_table
    → IsPlainGet tokens (record { object = o; method = m; first = x; last = y })
plain_as tokens t u v w r o m x y a b d e f g eo em lx ly le is h k =
    subst (λ (text : List ℕ). IsPlainGet text (record { object = o; method = m; first = x; last = y }))
    (sym (joined tokens t u v w r o m x y a b d e f (nothing_left r g))) (is_plain o m x y eo em lx ly le is h k)
