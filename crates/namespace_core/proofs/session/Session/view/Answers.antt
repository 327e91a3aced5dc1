use Rattle.std.proofs.Common.{subst}
use Rattle.std.specs.Prelude.{IfOk}
use Rattle.namespace_core.specs.Sessions.{StoredSession, labels_of}
use Rattle.namespace_core.specs.Views.{IsView}
use Rattle.namespace_core.proofs.Viewing.{shown-of}
use Rattle.namespace_core.proofs.session.Session.view.Goals as goal

pub returns : goal.returns
returns c =
    let inside = c.self.inside in
    subst (λ (session : StoredSession). IfOk c.view.result (IsView session.platform (labels_of session))) c.self.view_is
    (shown-of inside.platform inside.sets c.self.invariant.sound c.self.invariant.state c.view.result c.view.ensures)
