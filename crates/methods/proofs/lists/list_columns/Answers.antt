use Rattle.std.proofs.Common.{◌∙◌, ap, sym, subst, Some}
use Rattle.methods.proofs.ListLemmas.{Lists}
use Rattle.methods.proofs.lists.list_columns.Goals as goal

pub returns-in-Some-Sp : goal.returns-in-Some-Sp
returns-in-Some-Sp g c = subst (Lists (g.R.Rows.profile_of c.args.rows.now) (g.R.Rows.look_up c.args.rows.now) c.args.sp c.args.object c.args.first c.args.last c.args.held.now c.list_each-in-Some-Sp.result) (ap Some (sym c.in-Some-Sp.field-0-is) ∙ sym c.in-Some-Sp.is ∙ c.kind_of.ensures) c.list_each-in-Some-Sp.ensures

pub returns-in-Some-Authority : goal.returns-in-Some-Authority
returns-in-Some-Authority g c = subst (Lists (g.R.Rows.profile_of c.args.rows.now) (g.R.Rows.look_up c.args.rows.now) c.args.sp c.args.object c.args.first c.args.last c.args.held.now c.list_each-in-Some-Authority.result) (ap Some (sym c.in-Some-Authority.field-0-is) ∙ sym c.in-Some-Authority.is ∙ c.kind_of.ensures) c.list_each-in-Some-Authority.ensures

pub returns-in-Some-CPin : goal.returns-in-Some-CPin
returns-in-Some-CPin g c = subst (Lists (g.R.Rows.profile_of c.args.rows.now) (g.R.Rows.look_up c.args.rows.now) c.args.sp c.args.object c.args.first c.args.last c.args.held.now c.list_each-in-Some-CPin.result) (ap Some (sym c.in-Some-CPin.field-0-is) ∙ sym c.in-Some-CPin.is ∙ c.kind_of.ensures) c.list_each-in-Some-CPin.ensures

pub returns-in-Some-Ace : goal.returns-in-Some-Ace
returns-in-Some-Ace g c = subst (Lists (g.R.Rows.profile_of c.args.rows.now) (g.R.Rows.look_up c.args.rows.now) c.args.sp c.args.object c.args.first c.args.last c.args.held.now c.list_each-in-Some-Ace.result) (ap Some (sym c.in-Some-Ace.field-0-is) ∙ sym c.in-Some-Ace.is ∙ c.kind_of.ensures) c.list_each-in-Some-Ace.ensures

pub returns-in-Some-Locking : goal.returns-in-Some-Locking
returns-in-Some-Locking g c = subst (Lists (g.R.Rows.profile_of c.args.rows.now) (g.R.Rows.look_up c.args.rows.now) c.args.sp c.args.object c.args.first c.args.last c.args.held.now c.list_each-in-Some-Locking.result) (ap Some (sym c.in-Some-Locking.field-0-is) ∙ sym c.in-Some-Locking.is ∙ c.kind_of.ensures) c.list_each-in-Some-Locking.ensures

pub returns-in-Some-MbrControl : goal.returns-in-Some-MbrControl
returns-in-Some-MbrControl g c = subst (Lists (g.R.Rows.profile_of c.args.rows.now) (g.R.Rows.look_up c.args.rows.now) c.args.sp c.args.object c.args.first c.args.last c.args.held.now c.list_each-in-Some-MbrControl.result) (ap Some (sym c.in-Some-MbrControl.field-0-is) ∙ sym c.in-Some-MbrControl.is ∙ c.kind_of.ensures) c.list_each-in-Some-MbrControl.ensures

pub returns-in-Some-TperInfo : goal.returns-in-Some-TperInfo
returns-in-Some-TperInfo g c = subst (Lists (g.R.Rows.profile_of c.args.rows.now) (g.R.Rows.look_up c.args.rows.now) c.args.sp c.args.object c.args.first c.args.last c.args.held.now c.list_each-in-Some-TperInfo.result) (ap Some (sym c.in-Some-TperInfo.field-0-is) ∙ sym c.in-Some-TperInfo.is ∙ c.kind_of.ensures) c.list_each-in-Some-TperInfo.ensures

pub returns-in-Some-LockingInfo : goal.returns-in-Some-LockingInfo
returns-in-Some-LockingInfo g c = subst (Lists (g.R.Rows.profile_of c.args.rows.now) (g.R.Rows.look_up c.args.rows.now) c.args.sp c.args.object c.args.first c.args.last c.args.held.now c.list_each-in-Some-LockingInfo.result) (ap Some (sym c.in-Some-LockingInfo.field-0-is) ∙ sym c.in-Some-LockingInfo.is ∙ c.kind_of.ensures) c.list_each-in-Some-LockingInfo.ensures

pub returns-in-Some-Table : goal.returns-in-Some-Table
returns-in-Some-Table g c = subst (Lists (g.R.Rows.profile_of c.args.rows.now) (g.R.Rows.look_up c.args.rows.now) c.args.sp c.args.object c.args.first c.args.last c.args.held.now c.list_each-in-Some-Table.result) (ap Some (sym c.in-Some-Table.field-0-is) ∙ sym c.in-Some-Table.is ∙ c.kind_of.ensures) c.list_each-in-Some-Table.ensures
