use Rattle.std.proofs.Common.{◌≡◌, true, ◌||◌, ◌∙◌, refl, sym, ap, rules}
use Rattle.tcg_calls.specs.declared.call_shapes.ask.Ask.TheVariants.{GetCells, GetBytes, Activate, GenKey, Next, GetAcl, Random}
use Rattle.std.specs.Prelude.{slice_index}
use Rattle.sp_cells.specs.declared.byte_tables.ByteTable.{ByteTable}
use Rattle.sp_cells.specs.Config.{sizes_in}
use Rattle.transactions.specs.Sights.{sight_of}
use Rattle.ace_eval.specs.Aces.{acl_at}
use Rattle.sp_cells.specs.Names.{table_of}
use Rattle.sp_tables.specs.RowNames.{rows_of_table}
use Rattle.sessions.specs.Live.{session_room}
use Rattle.methods.specs.Tables.{rows_asked}
use Rattle.methods.specs.Judgement.{table_given, rows_told, acl_told, draws}
use Rattle.methods.specs.Random.{random_bytes}
use Rattle.methods.specs.Kinds.{kind_of, byte_table_of}
use Rattle.methods.specs.Effects.{has_ask, handles}
use Rattle.methods.specs.Calls.{standing_in}
use Rattle.methods.specs.declared.kinds.Handler.TheVariants as handlers
use Rattle.methods.proofs.CallLemmas.{judged-as, told-in, asked-is, set-is, activate-is, gen-key-is}
use Rattle.methods.proofs.calls.perform.Goals.{in-WriteCells+in-SetCells-1, in-WriteBytes+in-SetBytes-1, in_default-2-via-in-ReadCells+in_default, in_default-2-via-in-ReadBytes+in_default, in_default-2-via-in-WriteCells+in_default, in_default-2-via-in-WriteBytes+in_default, in_default-2-via-in-Authenticate+in_default, in_default-2-via-in-RevertSp+in_default, in_default-2-via-in-ListRows+in_default, in_default-2-via-in-ReadAcl+in_default, in_default-2-via-in-Draw+in_default}
use Rattle.methods.proofs.calls.perform.Goals as goal

pub returns-in-ReadCells-GetCells-clause-fulfils : goal.returns-in-ReadCells-GetCells-clause-fulfils
returns-in-ReadCells-GetCells-clause-fulfils c =
    let has : has_ask (kind_of c.args.session.sp c.args.object) c.args.ask.now ≡ true = sym (c.in-Some.ensures.cased ∙ ap (λ k. has_ask k c.args.ask.now) c.kind_of-kind.ensures) in
    judged-as _ _ c.args.session c.read_cells.result _ _ _ _
    (asked-is (standing_in c.args.store.now c.args.sessions.now c.args.session) c.args.object c.args.ask.now (GetCells c.in-ReadCells-GetCells.first c.in-ReadCells-GetCells.last) has c.in-ReadCells-GetCells.is-1)
    c.read_cells.ensures.fulfils

pub returns-in-ReadBytes-GetBytes-clause-fulfils : goal.returns-in-ReadBytes-GetBytes-clause-fulfils
returns-in-ReadBytes-GetBytes-clause-fulfils c =
    let has : has_ask (kind_of c.args.session.sp c.args.object) c.args.ask.now ≡ true = sym (c.in-Some.ensures.cased ∙ ap (λ k. has_ask k c.args.ask.now) c.kind_of-kind.ensures) in
    judged-as _ _ c.args.session c.read_bytes.result _ _ _ _
    (ap (λ (table : ByteTable). table_given (session_room c.args.store.now.config.profile c.args.sessions.now c.args.session) (slice_index (sight_of c.args.store.now c.args.session).bytes) (sizes_in c.args.store.now.config) table c.in-ReadBytes-GetBytes.first c.in-ReadBytes-GetBytes.last) (c.byte_table_of-table.ensures ∙ ap byte_table_of c.kind_of-kind.ensures)
    ∙ asked-is (standing_in c.args.store.now c.args.sessions.now c.args.session) c.args.object c.args.ask.now (GetBytes c.in-ReadBytes-GetBytes.first c.in-ReadBytes-GetBytes.last) has c.in-ReadBytes-GetBytes.is-1)
    c.read_bytes.ensures.fulfils

pub returns-in-Activate-default-clause-fulfils : goal.returns-in-Activate-default-clause-fulfils
returns-in-Activate-default-clause-fulfils c =
    let has : has_ask (kind_of c.args.session.sp c.args.object) c.args.ask.now ≡ true = sym (c.in-Some.ensures.cased ∙ ap (λ k. has_ask k c.args.ask.now) c.kind_of-kind.ensures) in
    let is = activate-is c.args.ask.now (sym (ap (λ h. handles h c.args.ask.now) c.in-Activate-default.is-0) ∙ c.in-Some.ensures.handles) in
    judged-as _ _ c.args.session c.activate.result _ _ _ _
    (asked-is (standing_in c.args.store.now c.args.sessions.now c.args.session) c.args.object c.args.ask.now Activate has is)
    (c.activate.ensures.fulfils c.args.sessions.now)

pub returns-in-GenKey-default-clause-fulfils : goal.returns-in-GenKey-default-clause-fulfils
returns-in-GenKey-default-clause-fulfils c =
    let has : has_ask (kind_of c.args.session.sp c.args.object) c.args.ask.now ≡ true = sym (c.in-Some.ensures.cased ∙ ap (λ k. has_ask k c.args.ask.now) c.kind_of-kind.ensures) in
    let is = gen-key-is c.args.ask.now (sym (ap (λ h. handles h c.args.ask.now) c.in-GenKey-default.is-0) ∙ c.in-Some.ensures.handles) in
    judged-as _ _ c.args.session c.gen_key.result _ _ _ _
    (asked-is (standing_in c.args.store.now c.args.sessions.now c.args.session) c.args.object c.args.ask.now GenKey has is)
    (c.gen_key.ensures.fulfils c.args.sessions.now)

pub returns-in-WriteCells-SetCells-clause-fulfils : goal.returns-in-WriteCells-SetCells-clause-fulfils
returns-in-WriteCells-SetCells-clause-fulfils c =
    let has : has_ask (kind_of c.args.session.sp c.args.object) c.args.ask.now ≡ true = sym (c.in-Some.ensures.cased ∙ ap (λ k. has_ask k c.args.ask.now) c.kind_of-kind.ensures) in
    let is : (handles handlers.WriteCells c.args.ask.now || handles handlers.WriteBytes c.args.ask.now) ≡ true = elim c.in-WriteCells-SetCells-1.branch [ in-WriteCells+in-SetCells-1 w ↦ search rules | in-WriteBytes+in-SetBytes-1 w ↦ search rules ] in
    judged-as _ _ c.args.session c.write.result _ _ _ _
    (set-is (standing_in c.args.store.now c.args.sessions.now c.args.session) c.args.object c.args.ask.now is
    ∙ asked-is (standing_in c.args.store.now c.args.sessions.now c.args.session) c.args.object c.args.ask.now c.args.ask.now has refl)
    (c.write.ensures.fulfils c.args.sessions.now)

pub returns-in-ListRows-Next-clause-fulfils : goal.returns-in-ListRows-Next-clause-fulfils
returns-in-ListRows-Next-clause-fulfils c =
    let has : has_ask (kind_of c.args.session.sp c.args.object) c.args.ask.now ≡ true = sym (c.in-Some.ensures.cased ∙ ap (λ k. has_ask k c.args.ask.now) c.kind_of-kind.ensures) in
    judged-as _ _ c.args.session c.next.result _ _ _ _
    (ap (λ room. rows_told room (rows_asked c.in-ListRows-Next.after c.in-ListRows-Next.count (rows_of_table c.args.session.sp (table_of c.args.object)))) c.room_of-room.ensures
    ∙ asked-is (standing_in c.args.store.now c.args.sessions.now c.args.session) c.args.object c.args.ask.now (Next c.in-ListRows-Next.after c.in-ListRows-Next.count) has c.in-ListRows-Next.is-1)
    (told-in _ c.args.session c.next.result c.args.store.now c.args.sessions.now c.next.ensures.tells)

pub returns-in-ReadAcl-GetAcl-clause-fulfils : goal.returns-in-ReadAcl-GetAcl-clause-fulfils
returns-in-ReadAcl-GetAcl-clause-fulfils c =
    let has : has_ask (kind_of c.args.session.sp c.args.object) c.args.ask.now ≡ true = sym (c.in-Some.ensures.cased ∙ ap (λ k. has_ask k c.args.ask.now) c.kind_of-kind.ensures) in
    let profile : c.profile-profile.result ≡ c.args.store.now.config.profile = search rules in
    judged-as _ _ c.args.session c.get_acl.result _ _ _ _
    (ap (λ room. acl_told room (acl_at c.profile-profile.result c.args.session.sp c.in-ReadAcl-GetAcl.object c.in-ReadAcl-GetAcl.method)) c.room_of-room-in-ReadAcl-GetAcl.ensures
    ∙ ap (λ p. acl_told (session_room c.args.store.now.config.profile c.args.sessions.now c.args.session) (acl_at p c.args.session.sp c.in-ReadAcl-GetAcl.object c.in-ReadAcl-GetAcl.method)) profile
    ∙ asked-is (standing_in c.args.store.now c.args.sessions.now c.args.session) c.args.object c.args.ask.now (GetAcl c.in-ReadAcl-GetAcl.object c.in-ReadAcl-GetAcl.method) has c.in-ReadAcl-GetAcl.is-1)
    (told-in _ c.args.session c.get_acl.result c.args.store.now c.args.sessions.now c.get_acl.ensures.tells)

pub returns-in-Draw-Random-clause-fulfils : goal.returns-in-Draw-Random-clause-fulfils
returns-in-Draw-Random-clause-fulfils c =
    let has : has_ask (kind_of c.args.session.sp c.args.object) c.args.ask.now ≡ true = sym (c.in-Some.ensures.cased ∙ ap (λ k. has_ask k c.args.ask.now) c.kind_of-kind.ensures) in
    judged-as _ _ c.args.session c.draw.result _ _ _ _
    (asked-is (standing_in c.args.store.now c.args.sessions.now c.args.session) c.args.object c.args.ask.now (Random c.in-Draw-Random.count) has c.in-Draw-Random.is-1)
    c.draw.ensures.fulfils

pub returns-in_default-2-clause-fulfils : goal.returns-in_default-2-clause-fulfils
returns-in_default-2-clause-fulfils c = elim c.in_default-2.branch [
  | in_default-2-via-in-ReadCells+in_default w ↦ absurd (search rules)
  | in_default-2-via-in-ReadBytes+in_default w ↦ absurd (search rules)
  | in_default-2-via-in-WriteCells+in_default w ↦ absurd (search rules)
  | in_default-2-via-in-WriteBytes+in_default w ↦ absurd (search rules)
  | in_default-2-via-in-Authenticate+in_default w ↦ absurd (search rules)
  | in_default-2-via-in-RevertSp+in_default w ↦ absurd (search rules)
  | in_default-2-via-in-ListRows+in_default w ↦ absurd (search rules)
  | in_default-2-via-in-ReadAcl+in_default w ↦ absurd (search rules)
  | in_default-2-via-in-Draw+in_default w ↦ absurd (search rules)
]
