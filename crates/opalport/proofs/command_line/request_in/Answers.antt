use Rattle.std.proofs.Common.{◌≡◌, Some}
use Rattle.clap.specs.Words.{rows_of, found_of, subcommand_rows_of}
use Rattle.opalport.proofs.Matches.{entered_as}
use Rattle.opalport.proofs.command_line.request_in.Goals as goal

pub returns-in-run : goal.returns-in-run
returns-in-run c =
    let entered : subcommand_rows_of c.args.matches.now ≡ Some (c.in-Some.name.now, rows_of (found_of c.in-Some.matches.now)) =
    entered_as _ _ _ _ _ c.in-Some.ensures.name c.in-Some.ensures.rows in
    rw (entered, c.in-run.is) (cc)

pub returns-in-level0 : goal.returns-in-level0
returns-in-level0 c =
    let entered : subcommand_rows_of c.args.matches.now ≡ Some (c.in-Some.name.now, rows_of (found_of c.in-Some.matches.now)) =
    entered_as _ _ _ _ _ c.in-Some.ensures.name c.in-Some.ensures.rows in
    rw (entered, c.in-level0.is) (cc)

pub returns-in-threads : goal.returns-in-threads
returns-in-threads c =
    let entered : subcommand_rows_of c.args.matches.now ≡ Some (c.in-Some.name.now, rows_of (found_of c.in-Some.matches.now)) =
    entered_as _ _ _ _ _ c.in-Some.ensures.name c.in-Some.ensures.rows in
    rw (entered, c.in-threads.is) (cc)

pub returns-in-tokens : goal.returns-in-tokens
returns-in-tokens c =
    let entered : subcommand_rows_of c.args.matches.now ≡ Some (c.in-Some.name.now, rows_of (found_of c.in-Some.matches.now)) =
    entered_as _ _ _ _ _ c.in-Some.ensures.name c.in-Some.ensures.rows in
    rw (entered, c.in-tokens.is) (cc)

pub returns-in-decode : goal.returns-in-decode
returns-in-decode c =
    let entered : subcommand_rows_of c.args.matches.now ≡ Some (c.in-Some.name.now, rows_of (found_of c.in-Some.matches.now)) =
    entered_as _ _ _ _ _ c.in-Some.ensures.name c.in-Some.ensures.rows in
    rw (entered, c.in-decode.is) (cc)

pub returns-in-draw : goal.returns-in-draw
returns-in-draw c =
    let entered : subcommand_rows_of c.args.matches.now ≡ Some (c.in-Some.name.now, rows_of (found_of c.in-Some.matches.now)) =
    entered_as _ _ _ _ _ c.in-Some.ensures.name c.in-Some.ensures.rows in
    rw (entered, c.in-draw.is) (cc)
