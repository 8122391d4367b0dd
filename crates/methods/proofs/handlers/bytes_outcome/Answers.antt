use Rattle.std.proofs.Common.{◌≡◌, ◌==◌, ◌+◌, ◌∙◌, false, [], ◌∷◌, ◌++◌, ap, ap₂, map, arith, rules, ℕ}
use Rattle.std.proofs.lemmas.Bool.Decides.{nat_tests}
use Rattle.std.specs.Prelude.{◌-◌, nat_le, nat_lt, slice_index}
use Rattle.sp_cells.specs.Config.{sizes_in, table_sectors}
use Rattle.sp_cells.specs.ByteTables.{bytes_of_table, table_begin, sectors_of}
use Rattle.tcg_tokens.specs.Tree.{tree, bytes}
use Rattle.tcg_tokens.specs.declared.value.Value.{Bytes}
use Rattle.transactions.specs.Bytes.{bytes_from}
use Rattle.tcg_tokens.proofs.Trees.{tree_bytes}
use Rattle.methods.specs.Effects.{last_row}
use Rattle.methods.specs.Judgement.{bytes_between, bytes_given}
use Rattle.methods.proofs.EffectLemmas.{bytes-behind}
use Rattle.methods.proofs.CallLemmas.{bytes-told, tells-as}
use Rattle.methods.proofs.handlers.bytes_outcome.Goals as goal

pub returns : goal.returns
returns c =
    let sizes = sizes_in c.args.view.now.config in
    let byte = slice_index c.args.view.now.bytes in
    let begin = table_begin sizes c.args.table in
    let size = c.bytes_of.result in
    let same : c.table_sizes-sizes.result ≡ sizes = c.table_sizes-sizes.ensures.value in
    let sized : size ≡ bytes_of_table sizes c.args.table = c.bytes_of.ensures ∙ ap (λ z. bytes_of_table z c.args.table) same in
    let begun : c.begin_of.result ≡ begin = c.begin_of.ensures.value ∙ ap (λ z. table_begin z c.args.table) same in
    let last = c.match-last.last in
    let is : last_row size c.args.last ≡ last = search rules in
    let some : (size == 0) ≡ false = grind (arith, nat_tests) in
    let below : nat_le size last ≡ false = grind (arith, nat_tests) in
    let above : nat_lt last c.args.first ≡ false = grind (arith, nat_tests) in
    let few : nat_lt c.args.room (last + 1 - c.args.first) ≡ false = grind (arith, nat_tests) in
    let pushed : map tree c.push.new.self.items ≡ bytes c.in_ok-read.read.items ∷ [] =
    ap (map tree) (c.in_ok-push.ensures.items ∙ ap (λ values. values ++ Bytes c.from_vec.result ∷ []) c.new-results.ensures.items) ∙ ap (λ t. t ∷ []) (tree_bytes c.from_vec.result) ∙ ap (λ read. bytes read ∷ []) c.from_vec.ensures in
    let read : c.in_ok-read.read.items ≡ bytes_from byte (begin + c.args.first) (last + 1 - c.args.first) =
    c.in_ok-read.ensures ∙ ap₂ (bytes_from byte) (ap (λ (m : ℕ). m + c.args.first) begun) (omega arith) in
    let given : map tree c.push.new.self.items ≡ bytes_between (λ row. byte (begin + row)) c.args.first last =
    pushed ∙ ap (λ read. bytes read ∷ []) (read ∙ bytes-behind byte begin c.args.first (last + 1 - c.args.first)) in
    tells-as _ _ c.fitting.result (bytes-told c.args.room (λ row. byte (begin + row)) size c.args.first last c.args.last _ is some below above few given ∙ ap (λ n. bytes_given c.args.room (λ row. byte (begin + row)) n c.args.first c.args.last) sized) c.fitting.ensures

pub read_rows-requires : goal.read_rows-requires
read_rows-requires c =
    let sectors : sectors_of c.table_sizes-sizes.result ≡ table_sectors c.args.view.now.config = ap sectors_of c.table_sizes-sizes.ensures.value in
    omega (arith, sectors)
