-- Sectors that an answer shows, one after the other.
use Rattle.std.proofs.Common.{◌≡◌, ◌∙◌, ℕ, suc, ◌+◌, ◌-◌, ◌<◌, List, ◌++◌, append_assoc, sym, ap, arith}
use Rattle.judged.specs.Shown.{sector_digits, is_blank_at, sector_shown, shown_from}
use Rattle.judged.specs.declared.shown.ShownSector.{ShownSector}

pub one_shown : (end i next number sector next_sector place next_place : ℕ) (heard wanted other : List ℕ) (before later whole : List ShownSector)
    → i < end → next ≡ i + 1 → next_sector ≡ sector + 1 → next_place ≡ place + 9
    → later ≡ before ++ sector_shown number sector (sector_digits place heard) (is_blank_at wanted other place)
    → before ++ shown_from (end - i) number sector place heard wanted other ≡ whole
    → later ++ shown_from (end - next) number next_sector next_place heard wanted other ≡ whole
one_shown end i next number sector next_sector place next_place heard wanted other before later whole within is sector_is place_is adds kept =
    let left : end - i ≡ suc (end - next) = omega (arith, is, within) in
    let sector_next : next_sector ≡ suc sector = omega (arith, sector_is) in
    let place_next : next_place ≡ 9 + place = omega (arith, place_is) in
    let here = sector_shown number sector (sector_digits place heard) (is_blank_at wanted other place) in
    ap (λ (l : List ShownSector). l ++ shown_from (end - next) number next_sector next_place heard wanted other) adds
    ∙ ap (λ n. (before ++ here) ++ shown_from (end - next) number n next_place heard wanted other) sector_next
    ∙ ap (λ n. (before ++ here) ++ shown_from (end - next) number (suc sector) n heard wanted other) place_next
    ∙ append_assoc before here (shown_from (end - next) number (suc sector) (9 + place) heard wanted other)
    ∙ sym (ap (λ n. before ++ shown_from n number sector place heard wanted other) left)
    ∙ kept
