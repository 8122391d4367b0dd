-- What is read off the matches of a command line.
use Rattle.std.proofs.Common.{◌≡◌, List, [], Option, None, Some, Result, Ok, Err, Bor, map, ap, sym, subst, option_map}
use Rattle.std.specs.Prelude.{IsErrAnd, unwrap_or}
use Rattle.clap.specs.Words.{FailsBy, HasKind, Kinds, Row, Text}
use Rattle.clap.specs.declared.error.Error.{Error}

-- the subcommand that a parse entered, by its name and its rows
pub entered_as : {S : Type 0} (name_of : S → Text) (rows_in : S → List Row) (found : Option S) (name : Text) (rows : List Row)
    → Some name ≡ option_map name_of found
    → Some rows ≡ option_map {T = Text × List Row} (λ p. p.1) (option_map (λ s. (name_of s, rows_in s)) found)
    → option_map {U = Text × List Row} (λ s. (name_of s, rows_in s)) found ≡ Some (name, rows)
entered_as name_of rows_in None name rows is_name is_rows = cc
entered_as name_of rows_in (Some s) name rows is_name is_rows = cc

-- a text, or an empty one where there is none
pub text_or_empty : (found : Option (Bor Text)) (text : Option Text) (empty : Bor Text)
    → option_map (λ s. s.now) found ≡ text → empty.now ≡ [] → (unwrap_or found empty).now ≡ unwrap_or text []
text_or_empty None None empty is_text is_empty = is_empty
text_or_empty None (Some text) empty is_text is_empty = cc
text_or_empty (Some s) None empty is_text is_empty = cc
text_or_empty (Some s) (Some text) empty is_text is_empty = cc

-- the texts, or none where there are none
pub texts_or_none : (found : Option (Bor (List (Bor Text)))) (texts : Option (List Text))
    (none : Bor (List (Bor Text)))
    → option_map (λ s. map (λ v. v.now) s.now) found ≡ texts → none.now ≡ []
    → map (λ v. v.now) (unwrap_or found none).now ≡ unwrap_or texts []
texts_or_none None None none is_texts is_none = ap (λ xs. map (λ v. v.now) xs) is_none
texts_or_none None (Some texts) none is_texts is_none = cc
texts_or_none (Some s) None none is_texts is_none = cc
texts_or_none (Some s) (Some texts) none is_texts is_none = cc

-- an error that is handed on has the kinds that it had
pub fails_so : {T : Type 0} (r : Result T Error) (kinds : Kinds) (e : Error)
    → IsErrAnd r (λ x. x ≡ e) → HasKind kinds e → FailsBy kinds r
fails_so (Ok x) kinds e same has = absurd same
fails_so (Err x) kinds e same has = subst (HasKind kinds) (sym same) has
