use Rattle.opalport_c.proofs.saves.hba_of_text.Goals as goal

pub returns-clause-loaded : goal.returns-clause-loaded
returns-clause-loaded c =
    let (desk, is, denied, over) = c.in_ok-object.ensures.made in (
      desk,
      is,
      denied,
      λ o width saved. over o width (c.in_ok-drive.ensures.loaded o.origin o.earlier saved),
    )
