-- The first words of lines that write a call by name.
use Rattle.std.specs.Prelude.{ℕ, Bool, true, false, codes, if◌then◌else◌, List, Option, Some, None}
use Rattle.std.specs.Str.{bytes_eq}
use Rattle.script_lines.specs.declared.named_lines.verb.CallVerb.{CallVerb}
use Rattle.script_lines.specs.declared.named_lines.verb.CallVerb.TheVariants as verbs

-- the verb that a word is
abbrev pub call_verb_of : List ℕ → Option CallVerb
call_verb_of word =
    if bytes_eq word (codes "start") then Some verbs.Start else
    if bytes_eq word (codes "get") then Some verbs.Get else
    if bytes_eq word (codes "set") then Some verbs.Set else
    if bytes_eq word (codes "authenticate") then Some verbs.Authenticate else
    if bytes_eq word (codes "activate") then Some verbs.Activate else
    if bytes_eq word (codes "revert") then Some verbs.Revert else
    if bytes_eq word (codes "begin") then Some verbs.Begin else
    if bytes_eq word (codes "commit") then Some verbs.Commit else
    if bytes_eq word (codes "abort") then Some verbs.Abort else
    if bytes_eq word (codes "end") then Some verbs.End else None

-- it begins a session, and is called of the session manager
abbrev pub begins_session : CallVerb → Bool
begins_session verbs.Start = true
begins_session _ = false
