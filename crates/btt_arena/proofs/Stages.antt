-- What a stop leaves of each write of a media that is formatted.
use Rattle.std.proofs.Common.{◌≡◌, ◌⊎◌, inl, inr, ℕ, ◌+◌, ◌-◌, ◌*◌, ◌≤◌, ◌<◌, List, length, Option, Some, None, Result, Ok, Err, refl, sym, ap, subst, ◌∙◌, arith}
use Rattle.std.specs.Prelude.{IsErr, OnErr}
use Rattle.byte_ranges.specs.Ranges.{range, patched}
use Rattle.byte_ranges.proofs.Patched.{range-patched_in}
use Rattle.rig_trait.specs.declared.rig.Failed.{Failed}
use Rattle.btt_arena.specs.declared.layout.Layout.{Layout}
use Rattle.btt_arena.specs.Formatting.{ChangesOnly, IsFormatted, fresh_lane, HasFreshLog, HasFreshMap, HasInfo, IsFair, IsFairTorn, IsStage, writing_first, writing_lanes, writing_map, writing_second}
use Rattle.btt_arena.specs.Info.{arena_at, arena_in, first_of_two, info_text, told_layout}
use Rattle.btt_arena.specs.Layout.{IsLayout, layout_of}
use Rattle.btt_arena.specs.Records.{CrashRecord, LeftByWrite, Writes, torn_write}
use Rattle.btt_arena.proofs.Changes.{changes_on, left_changes, patched_changes, wider}
use Rattle.btt_arena.proofs.Fresh.{fresh_of, range-range}
use Rattle.btt_arena.proofs.Infos.{length-info_text, told_text}
use Rattle.btt_arena.proofs.Layouts.{Fits, fits_of}

on_err : {T : Type 0} → (result : Result T Failed) (P : Type 0) → IsErr result → OnErr result P → P
on_err (Ok value) P err has = cc
on_err (Err failed) P err has = has

-- a fair stop within the write of an info block, or right after it, leaves the old block, the new one, or none that is right
info_left : {T : Type 0} → (old new put : List ℕ) (at : ℕ) (result : Result T Failed) (c : CrashRecord) → length put ≡ 4096 → at + length put ≤ length old → Writes old new at put result → LeftByWrite old new at put result c
    → IsFair c → (at ≡ 0) ⊎ (at ≡ (layout_of (length c.bytes) 512).info_at)
    → (range c.bytes at 4096 ≡ range old at 4096) ⊎ ((range c.bytes at 4096 ≡ put) ⊎ (told_layout (length c.bytes) (range c.bytes at 4096) ≡ None))
info_left old new put at result c put_long inside writes (inl torn) fair place =
    let known : IsFairTorn c.bytes (Some (torn_write old at put)) = subst (IsFairTorn c.bytes) torn.torn_is fair in
    elim (known put_long place) [
      | inl was ↦ inl (was ∙ ap (range old at) put_long)
      | inr other ↦ inr other
    ]
info_left old new put at result c put_long inside writes (inr whole) fair place = elim writes.ok [
  | inl err ↦ inl (ap (λ (b : List ℕ). range b at 4096) (whole.0.bytes_are ∙ on_err result (new ≡ old) err whole.1))
  | inr same ↦ inr (inl (
      ap (λ (b : List ℕ). range b at 4096) (whole.0.bytes_are ∙ writes.bytes_are ∙ ap (patched old at) same)
      ∙ ap (range (patched old at put) at) (sym put_long) ∙ range-patched_in old put at inside
      ))
]

none_both : (x y : Option Layout) → first_of_two x y ≡ None → (x ≡ None) × (y ≡ None)
none_both None y none = (refl, none)
none_both (Some b) y none = let no : Some b ≡ None = none in absurd (cc)

module _ (a : Layout) (layout : IsLayout a) where
  -- the arena is told by the two info blocks
  arena_is : (bytes first second : List ℕ) → length bytes ≡ a.size → range bytes 0 4096 ≡ first → range bytes a.info_at 4096 ≡ second
      → arena_in bytes ≡ first_of_two (told_layout a.size first) (told_layout a.size second)
  arena_is bytes first second long first_is second_is =
      let fits : Fits a = fits_of a layout in
      let at : a.size - 4096 ≡ a.info_at = omega (arith, fits.info) in
      let by_size : arena_at a.size bytes ≡ first_of_two (told_layout a.size (range bytes 0 4096)) (told_layout a.size (range bytes (a.size - 4096) 4096)) = rw layout.size refl in
      ap (λ (n : ℕ). arena_at n bytes) long ∙ by_size
      ∙ (λ i. first_of_two (told_layout a.size (first_is i)) (told_layout a.size ((ap (λ (k : ℕ). range bytes k 4096) at ∙ second_is) i)))

  -- by the bytes of the info blocks
  pub same_infos : (before bytes : List ℕ) → length before ≡ a.size → length bytes ≡ length before → range bytes 0 4096 ≡ range before 0 4096 → range bytes a.info_at 4096 ≡ range before a.info_at 4096 → arena_in bytes ≡ arena_in before
  same_infos before bytes long same first second =
      arena_is bytes (range before 0 4096) (range before a.info_at 4096) (same ∙ long) first second
      ∙ sym (arena_is before (range before 0 4096) (range before a.info_at 4096) long refl refl)

  pub same_arena : (before : List ℕ) → length before ≡ a.size → (from n : ℕ) (bytes : List ℕ) → 4096 ≤ from → from + n ≤ a.info_at → ChangesOnly from n before bytes → arena_in bytes ≡ arena_in before
  same_arena before long from n bytes begins ends changes =
      arena_is bytes (range before 0 4096) (range before a.info_at 4096) (changes.same_length ∙ long) (changes.others 0 4096 (inl begins)) (changes.others a.info_at 4096 (inr ends))
      ∙ sym (arena_is before (range before 0 4096) (range before a.info_at 4096) long refl refl)

  module _ (uuid before : List ℕ) (uuid_long : length uuid ≡ 16) (long : length before ≡ a.size) where
    pub map_stage : (c : CrashRecord) → ChangesOnly a.map_at (a.log_at - a.map_at) before c.bytes → IsStage a uuid before c
    map_stage c changes =
        let fits : Fits a = fits_of a layout in
        record {
          order = writing_map changes;
          made = λ none fair. inl (same_arena before long a.map_at (a.log_at - a.map_at) c.bytes (omega (arith, fits.room)) (omega (arith, fits.map, fits.log)) changes ∙ none);
        }

    module _ {T : Type 0} (old new put : List ℕ) (result : Result T Failed) (c : CrashRecord) where
      pub log_stage : ChangesOnly a.map_at (a.log_at - a.map_at) before old → HasFreshMap a old → length put ≡ 16384
          → Writes old new a.log_at put result → LeftByWrite old new a.log_at put result c → IsStage a uuid before c
      log_stage changes map put_long writes left =
          let fits : Fits a = fits_of a layout in
          let this : ChangesOnly a.log_at (length put) old c.bytes = left_changes old put a.log_at (omega (arith, changes.same_length, long, fits.log, fits.info)) new result c writes left in
          let all : ChangesOnly a.map_at (a.info_at - a.map_at) before c.bytes =
          changes_on a.map_at (a.info_at - a.map_at) before old c.bytes
          (wider a.map_at (a.log_at - a.map_at) a.map_at (a.info_at - a.map_at) before old (omega arith) (omega (arith, fits.map, fits.log)) changes)
          (wider a.log_at (length put) a.map_at (a.info_at - a.map_at) old c.bytes (omega (arith, fits.map)) (omega (arith, fits.map, fits.log)) this) in
          record {
            order = writing_lanes all (this.others a.map_at (a.log_at - a.map_at) (inl (omega (arith, fits.map))) ∙ map);
            made = λ none fair. inl (same_arena before long a.map_at (a.info_at - a.map_at) c.bytes (omega (arith, fits.room)) (omega (arith, fits.map, fits.log)) all ∙ none);
          }

      pub second_stage : ChangesOnly a.map_at (a.info_at - a.map_at) before old → HasFreshMap a old → HasFreshLog a old → put ≡ info_text a uuid
          → Writes old new a.info_at put result → LeftByWrite old new a.info_at put result c → IsStage a uuid before c
      second_stage changes map log text writes left =
          let fits : Fits a = fits_of a layout in
          let put_long : length put ≡ 4096 = ap length text ∙ length-info_text a uuid uuid_long in
          let inside : a.info_at + length put ≤ length old = omega (arith, changes.same_length, long, fits.info, put_long) in
          let this : ChangesOnly a.info_at (length put) old c.bytes = left_changes old put a.info_at inside new result c writes left in
          let all : ChangesOnly a.map_at (a.size - a.map_at) before c.bytes =
          changes_on a.map_at (a.size - a.map_at) before old c.bytes
          (wider a.map_at (a.info_at - a.map_at) a.map_at (a.size - a.map_at) before old (omega arith) (omega (arith, fits.map, fits.log, fits.info)) changes)
          (wider a.info_at (length put) a.map_at (a.size - a.map_at) old c.bytes (omega (arith, fits.map, fits.log)) (omega (arith, fits.map, fits.log, fits.info, put_long)) this) in
          let map_now : HasFreshMap a c.bytes = this.others a.map_at (a.log_at - a.map_at) (inl (omega (arith, fits.map, fits.log))) ∙ map in
          let log_now : HasFreshLog a c.bytes = λ lane below. this.others (a.log_at + 64 * lane) 64 (inl (omega (arith, fits.log, below))) ∙ log lane below in
          let data_stay = all.others 4096 (a.map_at - 4096) (inl (omega (arith, fits.room))) in
          let size_now : length c.bytes ≡ a.size = all.same_length ∙ long in
          let first_now = all.others 0 4096 (inl (omega (arith, fits.room))) in
          let place : a.info_at ≡ length c.bytes - 4096 = omega (arith, size_now, fits.info) in
          record {
            order = writing_second all map_now log_now;
            made = λ none fair.
                let nones = none_both _ _ (sym (arena_is before (range before 0 4096) (range before a.info_at 4096) long refl refl) ∙ none) in
                elim (info_left old new put a.info_at result c put_long inside writes left fair (inr place)) [
                  | inl was ↦ inl (
                      arena_is c.bytes (range before 0 4096) (range before a.info_at 4096) size_now first_now (was ∙ changes.others a.info_at 4096 (inr (omega (arith, fits.map, fits.log))))
                      ∙ (λ i. first_of_two (nones.0 i) (nones.1 i))
                      )
                  | inr other ↦ elim other [
                    | inl now ↦ inr (fresh_of a before c.bytes layout map_now log_now
                        (arena_is c.bytes (range before 0 4096) (info_text a uuid) size_now first_now (now ∙ text) ∙ (λ i. first_of_two (nones.0 i) (told_text a uuid uuid_long layout i))) data_stay)
                    | inr none_right ↦ inl (
                        arena_is c.bytes (range before 0 4096) (range c.bytes a.info_at 4096) size_now first_now refl
                        ∙ (λ i. first_of_two (nones.0 i) ((ap (λ (n : ℕ). told_layout n (range c.bytes a.info_at 4096)) (sym size_now) ∙ none_right) i))
                        )
                  ]
                ];
          }

      pub first_stage : length old ≡ a.size → range old 0 4096 ≡ range before 0 4096 → range old 4096 (a.map_at - 4096) ≡ range before 4096 (a.map_at - 4096)
          → HasFreshMap a old → HasFreshLog a old → HasInfo a uuid a.info_at old → put ≡ info_text a uuid
          → Writes old new 0 put result → LeftByWrite old new 0 put result c → IsStage a uuid before c
      first_stage old_long first_old stay map log second text writes left =
          let fits : Fits a = fits_of a layout in
          let put_long : length put ≡ 4096 = ap length text ∙ length-info_text a uuid uuid_long in
          let inside : 0 + length put ≤ length old = omega (arith, old_long, put_long, fits.info, fits.log) in
          let this : ChangesOnly 0 (length put) old c.bytes = left_changes old put 0 inside new result c writes left in
          let map_now : HasFreshMap a c.bytes = this.others a.map_at (a.log_at - a.map_at) (inr (omega (arith, fits.room, put_long))) ∙ map in
          let log_now : HasFreshLog a c.bytes = λ lane below. this.others (a.log_at + 64 * lane) 64 (inr (omega (arith, fits.room, fits.map, put_long))) ∙ log lane below in
          let data_stay = this.others 4096 (a.map_at - 4096) (inr (omega (arith, put_long))) ∙ stay in
          let second_now : HasInfo a uuid a.info_at c.bytes = this.others a.info_at 4096 (inr (omega (arith, fits.room, fits.map, fits.log, put_long))) ∙ second in
          let size_now : length c.bytes ≡ a.size = this.same_length ∙ old_long in
          let told = told_text a uuid uuid_long layout in
          record {
            order = writing_first (size_now ∙ sym long) data_stay map_now log_now second_now;
            made = λ none fair.
                let nones = none_both _ _ (sym (arena_is before (range before 0 4096) (range before a.info_at 4096) long refl refl) ∙ none) in
                let fresh = λ (info : arena_in c.bytes ≡ Some a). fresh_of a before c.bytes layout map_now log_now info data_stay in
                elim (info_left old new put 0 result c put_long inside writes left fair (inl refl)) [
                  | inl was ↦ inr (fresh (arena_is c.bytes (range before 0 4096) (info_text a uuid) size_now (was ∙ first_old) second_now ∙ (λ i. first_of_two (nones.0 i) (told i))))
                  | inr other ↦ elim other [
                    | inl now ↦ inr (fresh (arena_is c.bytes (info_text a uuid) (info_text a uuid) size_now (now ∙ text) second_now ∙ (λ i. first_of_two (told i) (told i))))
                    | inr none_right ↦ inr (fresh (
                        arena_is c.bytes (range c.bytes 0 4096) (info_text a uuid) size_now refl second_now
                        ∙ (λ i. first_of_two ((ap (λ (n : ℕ). told_layout n (range c.bytes 0 4096)) (sym size_now) ∙ none_right) i) (told i))
                        ))
                  ]
                ];
          }

    -- what stands after the lanes, and after the second info block
    pub record IsTabled (old : List ℕ) : Type 0 where
      pub changes : ChangesOnly a.map_at (a.info_at - a.map_at) before old
      pub map : HasFreshMap a old
      pub log : HasFreshLog a old

    pub record HasSecond (old : List ℕ) : Type 0 where
      pub size : length old ≡ a.size
      pub first_old : range old 0 4096 ≡ range before 0 4096
      pub stay : range old 4096 (a.map_at - 4096) ≡ range before 4096 (a.map_at - 4096)
      pub map : HasFreshMap a old
      pub log : HasFreshLog a old
      pub second : HasInfo a uuid a.info_at old

    module _ (old new put : List ℕ) where
      pub tabled : ChangesOnly a.map_at (a.log_at - a.map_at) before old → HasFreshMap a old → length put ≡ 16384 → new ≡ patched old a.log_at put
          → ((lane : ℕ) → lane < 256 → range put (64 * lane) 64 ≡ fresh_lane a.sectors lane) → IsTabled new
      tabled changes map put_long is lanes =
          let fits : Fits a = fits_of a layout in
          let inside : a.log_at + length put ≤ length old = omega (arith, changes.same_length, long, fits.log, fits.info) in
          let this : ChangesOnly a.log_at (length put) old new = patched_changes old put a.log_at inside new put refl is in
          let whole : range new a.log_at 16384 ≡ put = ap (λ (b : List ℕ). range b a.log_at 16384) is ∙ ap (range (patched old a.log_at put) a.log_at) (sym put_long) ∙ range-patched_in old put a.log_at inside in
          record {
            changes = changes_on a.map_at (a.info_at - a.map_at) before old new
                (wider a.map_at (a.log_at - a.map_at) a.map_at (a.info_at - a.map_at) before old (omega arith) (omega (arith, fits.map, fits.log)) changes)
                (wider a.log_at (length put) a.map_at (a.info_at - a.map_at) old new (omega (arith, fits.map)) (omega (arith, fits.map, fits.log)) this);
            map = this.others a.map_at (a.log_at - a.map_at) (inl (omega (arith, fits.map))) ∙ map;
            log = λ lane below. sym (range-range new a.log_at 16384 (64 * lane) 64 (omega (arith, below))) ∙ ap (λ (xs : List ℕ). range xs (64 * lane) 64) whole ∙ lanes lane below;
          }

      pub seconded : IsTabled old → put ≡ info_text a uuid → new ≡ patched old a.info_at put → HasSecond new
      seconded tables text is =
          let fits : Fits a = fits_of a layout in
          let put_long : length put ≡ 4096 = ap length text ∙ length-info_text a uuid uuid_long in
          let inside : a.info_at + length put ≤ length old = omega (arith, tables.changes.same_length, long, fits.info, put_long) in
          let this : ChangesOnly a.info_at (length put) old new = patched_changes old put a.info_at inside new put refl is in
          record {
            size = this.same_length ∙ tables.changes.same_length ∙ long;
            first_old = this.others 0 4096 (inl (omega (arith, fits.room, fits.map, fits.log))) ∙ tables.changes.others 0 4096 (inl (omega (arith, fits.room)));
            stay = this.others 4096 (a.map_at - 4096) (inl (omega (arith, fits.room, fits.map, fits.log))) ∙ tables.changes.others 4096 (a.map_at - 4096) (inl (omega (arith, fits.room)));
            map = this.others a.map_at (a.log_at - a.map_at) (inl (omega (arith, fits.map, fits.log))) ∙ tables.map;
            log = λ lane below. this.others (a.log_at + 64 * lane) 64 (inl (omega (arith, fits.log, below))) ∙ tables.log lane below;
            second = ap (λ (b : List ℕ). range b a.info_at 4096) is ∙ ap (range (patched old a.info_at put) a.info_at) (sym put_long) ∙ range-patched_in old put a.info_at inside ∙ text;
          }

      pub formatted_of : HasSecond old → put ≡ info_text a uuid → new ≡ patched old 0 put → IsFormatted a uuid before new
      formatted_of has text is =
          let fits : Fits a = fits_of a layout in
          let put_long : length put ≡ 4096 = ap length text ∙ length-info_text a uuid uuid_long in
          let inside : 0 + length put ≤ length old = omega (arith, has.size, put_long, fits.info, fits.log) in
          let this : ChangesOnly 0 (length put) old new = patched_changes old put 0 inside new put refl is in
          let map_now : HasFreshMap a new = this.others a.map_at (a.log_at - a.map_at) (inr (omega (arith, fits.room, put_long))) ∙ has.map in
          let log_now : HasFreshLog a new = λ lane below. this.others (a.log_at + 64 * lane) 64 (inr (omega (arith, fits.room, fits.map, put_long))) ∙ has.log lane below in
          let stay = this.others 4096 (a.map_at - 4096) (inr (omega (arith, put_long))) ∙ has.stay in
          let second = this.others a.info_at 4096 (inr (omega (arith, fits.room, fits.map, fits.log, put_long))) ∙ has.second in
          let first = ap (λ (b : List ℕ). range b 0 4096) is ∙ ap (range (patched old 0 put) 0) (sym put_long) ∙ range-patched_in old put 0 inside ∙ text in
          let told = told_text a uuid uuid_long layout in
          record {
            fresh = fresh_of a before new layout map_now log_now (arena_is new (info_text a uuid) (info_text a uuid) (this.same_length ∙ has.size) first second ∙ (λ i. first_of_two (told i) (told i))) stay;
            first = first;
            second = second;
            same_length = this.same_length ∙ has.size ∙ sym long;
            data_stay = stay;
          }
