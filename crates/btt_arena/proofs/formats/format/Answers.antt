use Rattle.std.proofs.Common.{◌≡◌, List, ℕ, length, inl, sym, ap, subst, ◌∙◌}
use Rattle.btt_arena.specs.declared.layout.Layout.{Layout}
use Rattle.btt_arena.specs.Formatting.{IsInOrder, IsNoneOrFresh, IsStage, writing_map}
use Rattle.btt_arena.specs.Info.{arena_in}
use Rattle.btt_arena.specs.Layout.{layout_of}
use Rattle.btt_arena.specs.Records.{CrashRecord}
use Rattle.btt_arena.proofs.Changes.{same_bytes}
use Rattle.btt_arena.proofs.Frames.{reading}
use Rattle.btt_arena.proofs.Moments.{joined, weakened}
use Rattle.btt_arena.proofs.formats.format.Goals as goal

pub returns-in_err-layout-clause-any_moment : goal.returns-in_err-layout-clause-any_moment
returns-in_err-layout-clause-any_moment g c told none =
    reading (IsNoneOrFresh (layout_of (length (g.M.MediaState.bytes c.args.media.now)) c.args.sector) (g.M.MediaState.bytes c.args.media.now)) (λ r at fair. inl (ap arena_in at ∙ none)) c.in_err-layout.ensures.reads_only

pub returns-in_err-write_parts-clause-in_order : goal.returns-in_err-write_parts-clause-in_order
returns-in_err-write_parts-clause-in_order g c told =
    let m = g.M.MediaState in
    let before = m.bytes c.args.media.now in
    let uuid = c.args.uuid.now in
    let is : c.in_ok-layout.layout ≡ layout_of (length before) c.args.sector = c.in_ok-layout.ensures.exact told in
    let same : m.bytes c.vacant_layout.new.media ≡ before = c.in_ok-layout.ensures.reads_only.bytes in
    let told1 = c.in_ok-layout.ensures.reads_only.goes_on.tells ∙ told in
    let stage : (r : CrashRecord) → IsStage c.in_ok-layout.layout uuid (m.bytes c.vacant_layout.new.media) r → IsStage (layout_of (length before) c.args.sector) uuid before r =
    λ r. subst (λ (b : List ℕ). IsStage c.in_ok-layout.layout uuid b r → IsStage (layout_of (length before) c.args.sector) uuid before r) (sym same)
    (subst (λ (a : Layout). IsStage a uuid before r → IsStage (layout_of (length before) c.args.sector) uuid before r) (sym is) (λ has. has)) in
    let whole = weakened (IsStage c.in_ok-layout.layout uuid (m.bytes c.vacant_layout.new.media)) (IsStage (layout_of (length before) c.args.sector) uuid before) stage (c.write_parts.ensures.any_moment told1) in
    let P = λ (r : CrashRecord). IsInOrder (layout_of (length before) c.args.sector) uuid before r.bytes in
    joined (reading P (λ r at. writing_map (same_bytes _ _ before r.bytes at)) c.in_ok-layout.ensures.reads_only)
    (weakened (IsStage (layout_of (length before) c.args.sector) uuid before) P (λ r has. has.order) whole)

pub returns-in_err-write_parts-clause-any_moment : goal.returns-in_err-write_parts-clause-any_moment
returns-in_err-write_parts-clause-any_moment g c told none =
    let m = g.M.MediaState in
    let before = m.bytes c.args.media.now in
    let uuid = c.args.uuid.now in
    let is : c.in_ok-layout.layout ≡ layout_of (length before) c.args.sector = c.in_ok-layout.ensures.exact told in
    let same : m.bytes c.vacant_layout.new.media ≡ before = c.in_ok-layout.ensures.reads_only.bytes in
    let told1 = c.in_ok-layout.ensures.reads_only.goes_on.tells ∙ told in
    let stage : (r : CrashRecord) → IsStage c.in_ok-layout.layout uuid (m.bytes c.vacant_layout.new.media) r → IsStage (layout_of (length before) c.args.sector) uuid before r =
    λ r. subst (λ (b : List ℕ). IsStage c.in_ok-layout.layout uuid b r → IsStage (layout_of (length before) c.args.sector) uuid before r) (sym same)
    (subst (λ (a : Layout). IsStage a uuid before r → IsStage (layout_of (length before) c.args.sector) uuid before r) (sym is) (λ has. has)) in
    let whole = weakened (IsStage c.in_ok-layout.layout uuid (m.bytes c.vacant_layout.new.media)) (IsStage (layout_of (length before) c.args.sector) uuid before) stage (c.write_parts.ensures.any_moment told1) in
    let P = IsNoneOrFresh (layout_of (length before) c.args.sector) before in
    joined (reading P (λ r at fair. inl (ap arena_in at ∙ none)) c.in_ok-layout.ensures.reads_only)
    (weakened (IsStage (layout_of (length before) c.args.sector) uuid before) P (λ r has. has.made none) whole)

pub returns-clause-in_order : goal.returns-clause-in_order
returns-clause-in_order g c told =
    let m = g.M.MediaState in
    let before = m.bytes c.args.media.now in
    let uuid = c.args.uuid.now in
    let is : c.in_ok-layout.layout ≡ layout_of (length before) c.args.sector = c.in_ok-layout.ensures.exact told in
    let same : m.bytes c.vacant_layout.new.media ≡ before = c.in_ok-layout.ensures.reads_only.bytes in
    let told1 = c.in_ok-layout.ensures.reads_only.goes_on.tells ∙ told in
    let stage : (r : CrashRecord) → IsStage c.in_ok-layout.layout uuid (m.bytes c.vacant_layout.new.media) r → IsStage (layout_of (length before) c.args.sector) uuid before r =
    λ r. subst (λ (b : List ℕ). IsStage c.in_ok-layout.layout uuid b r → IsStage (layout_of (length before) c.args.sector) uuid before r) (sym same)
    (subst (λ (a : Layout). IsStage a uuid before r → IsStage (layout_of (length before) c.args.sector) uuid before r) (sym is) (λ has. has)) in
    let whole = weakened (IsStage c.in_ok-layout.layout uuid (m.bytes c.vacant_layout.new.media)) (IsStage (layout_of (length before) c.args.sector) uuid before) stage (c.write_parts.ensures.any_moment told1) in
    let P = λ (r : CrashRecord). IsInOrder (layout_of (length before) c.args.sector) uuid before r.bytes in
    joined (reading P (λ r at. writing_map (same_bytes _ _ before r.bytes at)) c.in_ok-layout.ensures.reads_only)
    (weakened (IsStage (layout_of (length before) c.args.sector) uuid before) P (λ r has. has.order) whole)

pub returns-clause-any_moment : goal.returns-clause-any_moment
returns-clause-any_moment g c told none =
    let m = g.M.MediaState in
    let before = m.bytes c.args.media.now in
    let uuid = c.args.uuid.now in
    let is : c.in_ok-layout.layout ≡ layout_of (length before) c.args.sector = c.in_ok-layout.ensures.exact told in
    let same : m.bytes c.vacant_layout.new.media ≡ before = c.in_ok-layout.ensures.reads_only.bytes in
    let told1 = c.in_ok-layout.ensures.reads_only.goes_on.tells ∙ told in
    let stage : (r : CrashRecord) → IsStage c.in_ok-layout.layout uuid (m.bytes c.vacant_layout.new.media) r → IsStage (layout_of (length before) c.args.sector) uuid before r =
    λ r. subst (λ (b : List ℕ). IsStage c.in_ok-layout.layout uuid b r → IsStage (layout_of (length before) c.args.sector) uuid before r) (sym same)
    (subst (λ (a : Layout). IsStage a uuid before r → IsStage (layout_of (length before) c.args.sector) uuid before r) (sym is) (λ has. has)) in
    let whole = weakened (IsStage c.in_ok-layout.layout uuid (m.bytes c.vacant_layout.new.media)) (IsStage (layout_of (length before) c.args.sector) uuid before) stage (c.write_parts.ensures.any_moment told1) in
    let P = IsNoneOrFresh (layout_of (length before) c.args.sector) before in
    joined (reading P (λ r at fair. inl (ap arena_in at ∙ none)) c.in_ok-layout.ensures.reads_only)
    (weakened (IsStage (layout_of (length before) c.args.sector) uuid before) P (λ r has. has.made none) whole)

pub returns-in_err-write_parts-clause-so_far : goal.returns-in_err-write_parts-clause-so_far
returns-in_err-write_parts-clause-so_far g c told =
    let m = g.M.MediaState in
    let before = m.bytes c.args.media.now in
    let after = m.bytes c.write_parts.new.media in
    let uuid = c.args.uuid.now in
    let a = layout_of (length before) c.args.sector in
    let is : c.in_ok-layout.layout ≡ a = c.in_ok-layout.ensures.exact told in
    let same : m.bytes c.vacant_layout.new.media ≡ before = c.in_ok-layout.ensures.reads_only.bytes in
    let here : IsInOrder c.in_ok-layout.layout uuid before after = subst (λ (b : List ℕ). IsInOrder c.in_ok-layout.layout uuid b after) same (c.write_parts.ensures.so_far (c.in_ok-layout.ensures.reads_only.goes_on.tells ∙ told)) in
    subst (λ (b : Layout). IsInOrder b uuid before after) is here

pub returns-clause-so_far : goal.returns-clause-so_far
returns-clause-so_far g c told =
    let m = g.M.MediaState in
    let before = m.bytes c.args.media.now in
    let after = m.bytes c.write_parts.new.media in
    let uuid = c.args.uuid.now in
    let a = layout_of (length before) c.args.sector in
    let is : c.in_ok-layout.layout ≡ a = c.in_ok-layout.ensures.exact told in
    let same : m.bytes c.vacant_layout.new.media ≡ before = c.in_ok-layout.ensures.reads_only.bytes in
    let here : IsInOrder c.in_ok-layout.layout uuid before after = subst (λ (b : List ℕ). IsInOrder c.in_ok-layout.layout uuid b after) same (c.write_parts.ensures.so_far (c.in_ok-layout.ensures.reads_only.goes_on.tells ∙ told)) in
    subst (λ (b : Layout). IsInOrder b uuid before after) is here

pub returns-in_err-layout-clause-so_far : goal.returns-in_err-layout-clause-so_far
returns-in_err-layout-clause-so_far g c told = writing_map (same_bytes _ _ _ _ c.in_err-layout.ensures.reads_only.bytes)
