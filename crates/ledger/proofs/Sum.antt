-- The sum rule, of any list of calls, under any ceiling up to 4,096.
-- Assumes nothing.
use Prim.Native.Nat.{ℕ, ◌≤◌}
use native.Mathlib.Omega.{arith}
use mathlib.Core.Path.{◌≡◌, refl, sym, ap, ap₂, subst, ◌∙◌}
use mathlib.Core.List.{List, [], ◌∷◌, ◌++◌, map, append_assoc}
use lib.ListN.{length, take, drop, take-append-drop}
use Rattle.message.specs.declared.L3Side.{L3Side}
use Rattle.message.specs.Amounts.{nat_of}
use Rattle.book.specs.Line.{Entry, volume, queue}
use Rattle.book.specs.Rows.{most_rows}
use Rattle.book.specs.Memory.{Memory, Extent, extent_of}
use Rattle.book_levels.specs.Levels.{prices}
use Rattle.reconstructor_segments.specs.declared.Segment.{Segment}
use Rattle.reconstructor_segments.specs.Segments.{last_segment}
use Rattle.reconstructor_state.specs.State.{View, last_of}
use Rattle.ledger.specs.Ledger.{Config, Call, bootstrap, apply, step, read, Ledger, blank, fresh, feed, feed_all}
use Rattle.ledger.specs.World.{World, run, Lendable, fresh_world, line_at}
use Rattle.ledger.specs.Kept.{kept}
use Rattle.ledger.specs.Sum.{standing_of, standing_at, Stand, Alike, WhenInvalid, figures_of, Readings, numbered, SumRule, Demand3}
use Rattle.ledger.proofs.Volumes.{Tallies}
use Rattle.ledger.proofs.Accept.{all_tallies, fresh_tallies}
use Rattle.ledger.proofs.Follow.{Follows, never-three, view_all, follow_all, fresh-follows, line_is}
use Rattle.ledger.proofs.Replay.{all-repeats}
use Rattle.ledger.proofs.Stale.{Stale, stale-line, stale-since}
use Rattle.ledger.proofs.Said.{queue-said_of, profile-said_of, stale-said_of}
use Rattle.ledger.proofs.Answers.{queue-answers, profile-answers, last-answers, stale-answers, turned-away}
use Rattle.ledger.proofs.Bound.{line-bound}
use Rattle.ledger.proofs.Sums.{sums_on_the_way}
use Rattle.ledger.proofs.Counts.{counts_are}

feed-view : (top : ℕ) (c : Config) (l : Ledger) (ks : List Call) → (feed_all top c l ks).view ≡ view_all top c l.view ks
feed-view top c l [] = refl
feed-view top c l (k ∷ ks) = feed-view top c (feed top c l k) ks

lend-front : (r : Extent) (s : ℕ) (a b : List Call) → Lendable r s (a ++ b) → Lendable r s a
lend-front r s [] b l = tt
lend-front r s (bootstrap n bytes ∷ a) b l = (l.0, lend-front r s a b l.1)
lend-front r s (apply n m ∷ a) b l = (l.0, lend-front r s a b l.1)
lend-front r s (step n h m ∷ a) b l = (l.0, lend-front r s a b l.1)
lend-front r s (read q ∷ a) b l = lend-front r s a b l

alike : (w x : World) → line_at w ≡ line_at x → Alike w x
alike w x e = record { volumes = λ s p. ap (volume s p) e; queues = λ s p. ap (queue s p) e }

module _ (top : ℕ) (small : top ≤ most_rows) (c : Config) (mem : Memory) (sg : List Segment) where
  abbrev after : List Call → World
  after ks = run top (fresh_world c mem sg) ks

  follows : (ks : List Call) → Lendable (extent_of mem) (length sg) ks → Follows c (extent_of mem) (length sg) (after ks) (feed_all top c fresh ks).view
  follows ks l =
      subst (Follows c (extent_of mem) (length sg) (after ks)) (sym (feed-view top c fresh ks)) (follow_all top c (extent_of mem) (length sg) (fresh_world c mem sg) blank ks (fresh-follows c mem sg) l)

  standing_is : (ks : List Call) → Lendable (extent_of mem) (length sg) ks → standing_at (after ks) ≡ standing_of (view_all top c blank ks).status
  standing_is ks l =
      ap (λ (x : View). standing_of x.status) (follow_all top c (extent_of mem) (length sg) (fresh_world c mem sg) blank ks (fresh-follows c mem sg) l).stands.view

  ledger-line : (ks : List Call) → Lendable (extent_of mem) (length sg) ks → line_at (after ks) ≡ (feed_all top c fresh ks).view.line
  ledger-line ks l = ap (λ (x : View). x.line) (follows ks l).stands.view

  figure_is : (ks : List Call) (s : L3Side) (p : ℕ) → (feed_all top c fresh ks).figure s p ≡ volume s p (feed_all top c fresh ks).view.line
  unfolding Tallies
  figure_is ks s p = all_tallies top c fresh ks fresh_tallies s p

  figures_are : (ks : List Call) → Lendable (extent_of mem) (length sg) ks → (s : L3Side) (ps : List ℕ)
      → map (λ (p : ℕ). (p, volume s p (line_at (after ks)))) ps ≡ figures_of s ps (feed_all top c fresh ks).figure
  figures_are ks l s [] = refl
  figures_are ks l s (p ∷ ps) =
      ap₂ (λ (x : ℕ) (y : List (ℕ × ℕ)). (p, x) ∷ y) (ap (volume s p) (ledger-line ks l) ∙ sym (figure_is ks s p)) (figures_are ks l s ps)

  stand-facts : (ks : List Call) → Lendable (extent_of mem) (length sg) ks → Stand (after ks) (feed_all top c fresh ks)
  stand-facts ks l =
      let f = follows ks l in
      let e : (after ks).book.segments ≡ (feed_all top c fresh ks).view.segments = ap (λ (x : View). x.segments) f.stands.view in
      record {
        standing = ap (λ (x : View). standing_of x.status) f.stands.view;
        last = ap (λ (x : View). last_of x.status) f.stands.view;
        status = ap (λ (x : View). x.status) f.stands.view;
        snapshots = e;
        start = λ z. ap (λ (k : ℕ). (last_segment (after ks).segments k).start_seq) (sym e) ∙ f.stands.start (omega (arith, e, z));
      }

  read-facts : (ks : List Call) → Lendable (extent_of mem) (length sg) ks → Readings top c.rules (after ks) (feed_all top c fresh ks)
  read-facts ks l =
      let w : World = after ks in
      let v : View = (feed_all top c fresh ks).view in
      let f : Follows c (extent_of mem) (length sg) w v = follows ks l in
      record {
        queue-read = λ n sc s z out k h. queue-said_of top w.book w.memory n sc s out k z h ∙ ap (queue s (nat_of z)) (ledger-line ks l);
        profile-read = λ n sc s out k h.
            profile-said_of top w.book w.memory n sc s out k h
            ∙ figures_are ks l s (prices s (line_at w))
            ∙ ap (λ (x : List Entry). figures_of s (prices s x) (feed_all top c fresh ks).figure) (ledger-line ks l);
        queue-answers = λ h n sc e s z out k. queue-answers top c (extent_of mem) (length sg) w v f n sc e h s z out k;
        profile-answers = λ h n sc e s out k. profile-answers top c (extent_of mem) (length sg) w v f n sc e h s out k;
        last-answers = λ h n e. last-answers top c (extent_of mem) (length sg) w v f n h e;
        turned-away = λ h n. turned-away top c (extent_of mem) (length sg) w v f n h;
        stale-read = λ n sc s out k h.
            stale-said_of top w.book w.memory n sc s out k h
            ∙ figures_are ks l s (prices s (line_at w))
            ∙ ap (λ (x : List Entry). figures_of s (prices s x) (feed_all top c fresh ks).figure) (ledger-line ks l);
        stale-answers = λ h n sc e s out k. stale-answers top c (extent_of mem) (length sg) w v f n sc e h s out k;
      }

  pub sum-rule : (ks : List Call) → Lendable (extent_of mem) (length sg) ks → SumRule top c mem sg ks
  sum-rule ks l =
      record {
        volumes = λ s p. ap (volume s p) (ledger-line ks l) ∙ sym (figure_is ks s p);
        queues = λ s p. ap (queue s p) (ledger-line ks l);
        stands = stand-facts ks l;
        counts = counts_are top c mem sg ks l;
        bound = λ s p.
            subst (λ (x : ℕ). x ≤ 4096000000000000000) (ap (λ (x : View). volume s p x.line) (sym (feed-view top c fresh ks)) ∙ sym (figure_is ks s p))
            (line-bound top small c (extent_of mem) (length sg) (after ks) ks (follow_all top c (extent_of mem) (length sg) (fresh_world c mem sg) blank ks (fresh-follows c mem sg) l) s p);
        on_the_way = sums_on_the_way;
        afresh = λ k mem' sg' l'. alike _ _ (line_is top c mem sg ks l ∙ sym (all-repeats top c k ks).line ∙ sym (line_is top (numbered c k) mem' sg' (kept top c ks) l'));
        reads = read-facts ks l;
        never-three = λ n f.
            never-three top c (extent_of mem) (length sg) (after ks) (view_all top c blank ks)
            (follow_all top c (extent_of mem) (length sg) (fresh_world c mem sg) blank ks (fresh-follows c mem sg) l) n f;
        when-invalid = λ h. fall (stale-line top c ks (ap (λ (x : View). standing_of x.status) (sym (feed-view top c fresh ks)) ∙ h));
      }
    where
      fall : Stale top c ks → WhenInvalid top c (fresh_world c mem sg) ks
      fall t =
          let l₁ : Lendable (extent_of mem) (length sg) (t.before ++ (t.bad ∷ t.after)) = subst (Lendable (extent_of mem) (length sg)) t.parts l in
          let l₂ : Lendable (extent_of mem) (length sg) t.before = lend-front _ _ t.before (t.bad ∷ t.after) l₁ in
          let l₃ : (n : ℕ) → Lendable (extent_of mem) (length sg) (t.before ++ (t.bad ∷ take n t.after)) = λ n.
          lend-front _ _ (t.before ++ (t.bad ∷ take n t.after)) (drop n t.after)
          (subst (Lendable (extent_of mem) (length sg))
          (sym (append_assoc t.before (t.bad ∷ take n t.after) (drop n t.after) ∙ ap (λ (x : List Call). t.before ++ (t.bad ∷ x)) (take-append-drop n t.after))) l₁) in
          record {
            before = t.before;
            bad = t.bad;
            after = t.after;
            parts = t.parts;
            stood = standing_is t.before l₂ ∙ t.stood;
            fell = standing_is (t.before ++ (t.bad ∷ [])) (l₃ 0) ∙ stale-since top c ks t 0;
            since = λ n. standing_is (t.before ++ (t.bad ∷ take n t.after)) (l₃ n) ∙ stale-since top c ks t n;
            nothing = t.kept;
            stale = alike _ _ (line_is top c mem sg ks l ∙ t.line ∙ sym (line_is top c mem sg t.before l₂));
            stale-read = λ n sc s out k h.
                stale-said_of top (run top (fresh_world c mem sg) ks).book (run top (fresh_world c mem sg) ks).memory n sc s out k h
                ∙ ap (λ (x : List Entry). map (λ (p : ℕ). (p, volume s p x)) (prices s x)) (line_is top c mem sg ks l ∙ t.line ∙ sym (line_is top c mem sg t.before l₂));
          }

pub demand_3 : Demand3
demand_3 top small c mem sg ks l = sum-rule top small c mem sg ks l
