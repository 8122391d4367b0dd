-- Since which act a session has lived on an SP, or none has, and which number the session has that began there last. An SP
-- has one session at a time (Core 2.01, section 3.3.7; one: this drive), so that it is the one that lives, if one does.
use Rattle.std.specs.Prelude.{◌≡◌, ℕ, ◌+◌, ◌%◌, ◌^◌, ◌&&◌, Bool, not, List, Option, None, Some, is_some, option_map, if◌then◌else◌}
use Rattle.sp_cells.specs.declared.names.Sp.{Sp}
use Rattle.sp_cells.specs.declared.names.Sp.TheVariants.{Admin, Locking}
use Rattle.sessions.specs.Deeds.{Started}
use Rattle.history.specs.Opening.{Origin}
use Rattle.history.specs.Events.{Deed, InSession, latest}
use Rattle.history.specs.Readers.{on_sp, session_on, next_number}
use Rattle.history.specs.History.{log}
use Rattle.reasons.specs.declared.explained.onset.Onset.{Onset}
use Rattle.reasons.specs.declared.explained.lives.SpLife.{SpLife}
use Rattle.reasons.specs.Onsets.{Sourced, bare_acts, act_number, onset_after, held_since}

-- a session lives on an SP after acts, and none does
abbrev pub lives_after : Origin → Sp → List Sourced → Bool
lives_after o sp past = is_some (session_on (log o (bare_acts past)) sp)

abbrev pub is_free_after : Origin → Sp → List Sourced → Bool
is_free_after o sp past = not (lives_after o sp past)

-- numbers count up over all sessions, as far as 64 bits count
abbrev pub counted_number : ℕ → ℕ
counted_number n = n % 2 ^ 64

-- the number of the session that began last on an SP
abbrev pub number_begun : Sp → Deed → Option ℕ
number_begun sp (InSession (Started session row) response) = on_sp sp session.sp session.number
number_begun sp _ = None

abbrev pub last_number : Origin → List Sourced → Sp → Option ℕ
last_number o past sp =
    option_map counted_number (latest (number_begun sp) (log o (bare_acts past)))

-- what is kept: how many acts there were, the number of the next session, and of each SP since when a session lives there,
-- or none does, and the number of the last one
pub record KeptLives : Type 0 where
  pub acts : ℕ
  pub next : ℕ
  pub admin : SpLife
  pub locking : SpLife

abbrev pub life_on : KeptLives → Sp → SpLife
life_on k Admin = k.admin
life_on k Locking = k.locking

abbrev pub no_life : SpLife
no_life = record { busy = None; free = None; last = None }

-- a session begins where none lived and one lives now; it has the next number
abbrev pub begins_now : Bool → SpLife → Bool
begins_now lives old = is_some old.free && lives

abbrev pub number_after : Bool → ℕ → SpLife → Option ℕ
number_after lives next old = if begins_now lives old then Some next else old.last

abbrev pub life_after : Bool → ℕ → Onset → SpLife → SpLife
life_after lives next now old = record {
  busy = onset_after old.busy lives now;
  free = onset_after old.free (not lives) now;
  last = number_after lives next old;
}

abbrev pub next_after : Bool → ℕ → ℕ
next_after begins next = if begins then (next + 1) % 2 ^ 64 else next

-- what the acts say of an SP
abbrev pub life_of : Origin → List Sourced → Sp → SpLife
life_of o past sp = record {
  busy = held_since (lives_after o sp) past;
  free = held_since (is_free_after o sp) past;
  last = last_number o past sp;
}

-- it keeps what the acts say
pub record RecountsLives (k : KeptLives) (o : Origin) (past : List Sourced) : Type 0 where
  pub acts : k.acts ≡ act_number past
  pub next : k.next ≡ counted_number (next_number (log o (bare_acts past)))
  pub on : (sp : Sp) → life_on k sp ≡ life_of o past sp
