use Rattle.std.proofs.Common.{◌≡◌, ◌<◌, ◌≤◌, ℕ, List, ◌∷◌, ◌++◌, length, rules}
use Rattle.std.specs.Prelude.{◌≢◌}
use Rattle.sp_cells.specs.Names.{get, mbr_table, datastore_table}
use Rattle.tcg_calls.specs.Asks.{uid_of}
use Rattle.methods.proofs.PlainLemmas.{plain_as}
use Rattle.methods.proofs.plain.read_plain_get.Goals as goal

pub returns : goal.returns
returns c =
    let o : List ℕ = c.in_ok-object.object.now in
    let m : List ℕ = c.in_ok-method.method.now in
    let x : ℕ = c.from.result in
    let y : ℕ = c.from-2.result in
    let t : List ℕ = c.in_ok-behind.field-0.now in
    let u : List ℕ = c.in_ok-object.rest.now in
    let v : List ℕ = c.in_ok-method.rest.now in
    let w : List ℕ = c.in_ok-first.rest.now in
    let r : List ℕ = c.in_ok-rest.rest.now in
    let a : c.args.tokens.now ≡ 0xf8 ∷ t = search rules in
    let b : t ≡ 0xa8 ∷ (o ++ u) = search rules in
    let d : u ≡ 0xa8 ∷ (m ++ v) = search rules in
    let e : v ≡ 0xf0 ∷ 0xf0 ∷ 0xf2 ∷ 3 ∷ x ∷ 0xf3 ∷ 0xf2 ∷ 4 ∷ y ∷ 0xf3 ∷ 0xf1 ∷ w = search rules in
    let f : w ≡ 0xf1 ∷ 0xf9 ∷ 0xf0 ∷ 0 ∷ 0 ∷ 0 ∷ 0xf1 ∷ r = search rules in
    let g : length r ≡ 0 = search rules in
    let eo : length o ≡ 8 = search rules in
    let em : length m ≡ 8 = search rules in
    let lx : x < 64 = search rules in
    let ly : y < 64 = search rules in
    let le : x ≤ y = search rules in
    let is : uid_of m ≡ get = search rules in
    let no_mbr : uid_of o ≢ mbr_table = search rules in
    let no_data : uid_of o ≢ datastore_table = search rules in
    plain_as c.args.tokens.now t u v w r o m x y a b d e f g eo em lx ly le is no_mbr no_data
