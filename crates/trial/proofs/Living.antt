-- Calls made one after another are a history.
use Rattle.std.proofs.Common.{◌≡◌, ℕ, ◌+◌, ◌<◌, ◌⊎◌, length, take, List, [], ◌∷◌, ◌++◌, reverse, Ok, Err, Result, sym, refl, ap, ◌∙◌, subst, inl, inr}
use Rattle.std.proofs.lemmas.List.{reverse-append, take_more}
use Rattle.std.proofs.Math.ListN.{get_or}
use Rattle.base.specs.declared.number.BlockNo.{BlockNo}
use Rattle.base.specs.declared.refusal.Refusal.{Refusal}
use Rattle.base.specs.declared.refusal.Refusal.TheVariants.{PowerGone}
use Rattle.device.specs.Model.{Model, Lost, Settled}
use Rattle.device.specs.Answers.{SyncAnswer}
use Rattle.device.specs.declared.fault.Synced.{Synced}
use Rattle.device.specs.declared.fault.Synced.TheVariants.{Settled as SettledAnswer, Unsure}
use Rattle.device.specs.declared.put.Put.{Put}
use Rattle.layout.specs.Format.{Geometry}
use Rattle.rule.specs.Changing.{synced}
use Rattle.rule.specs.Changing as rule_of_changing
use Rattle.rule.specs.Check.{Answer as RuleAnswer}
use Rattle.rule.proofs.Plans.{clash_ok}
use Rattle.format.specs.Formats.{ByPlan, Formats}
use Rattle.history.specs.Events.{State, Step, closed}
use Rattle.history.specs.History.{Formatted, Moment, History}
use Rattle.history.proofs.Invariant.{reads_stand, finds_stand, paths_stand}
use Rattle.history.proofs.Settled.{files_stay}
use Rattle.trial.specs.Tells.{Idle, Does}
use Rattle.trial.specs.Lawful.{Lawful}
use Rattle.trial.specs.Record.{Told, Steps, Follows, Lived}
use Rattle.trial.specs.declared.call.Call.{Call}
use Rattle.trial.specs.declared.answer.Answer.{Answer}
use Rattle.trial.specs.declared.run.Stopped.{Stopped}
use Rattle.trial.specs.declared.run.Stopped.TheVariants.{Format}

-- ---- an accepted format

answered : (m n : Model) (a : Synced) → Ok tt ≡ synced a → SyncAnswer m n a → Settled m n
unfolding synced
answered m n SettledAnswer is s = s
answered m n Unsure is s = clash_ok (sym is)

settled : (m n : Model) (r : RuleAnswer (Unit {0})) → r ≡ Ok tt →
    ((a : Synced) × (r ≡ synced a) × SyncAnswer m n a) ⊎ ((b : BlockNo) × (b.0 ≡ 65535) × (r ≡ Err (PowerGone b)) × Lost m n) → Settled m n
settled m n r ok (inl (a, is, s)) = answered m n a (sym ok ∙ is) s
settled m n r ok (inr (b, p, is, l)) = clash_ok (sym is ∙ ok)

pub formatted : (N S : ℕ) (m n : Model) → Formats N S m (Ok tt) n → Formatted (record { blocks = N; slots = S }) (record { device = n; card = closed })
formatted N S m n f = go (rule_of_changing.format m.count N S) refl f
  where
    go : (x : RuleAnswer (List Put)) → rule_of_changing.format m.count N S ≡ x → ByPlan x m (Ok tt) n → Formatted (record { blocks = N; slots = S }) (record { device = n; card = closed })
    go (Ok ws) plan (inl y) = record {
      before = m;
      written = y.written;
      puts = ws;
      plan = plan;
      altered = y.altered;
      settled = settled y.written n _ refl y.answer;
      card = refl;
    }
    go (Ok ws) plan (inr y) = clash_ok (sym y.answer)
    go (Err e) plan (is, same) = clash_ok (sym is)

-- ---- one call more

pub none : (s : State) → Follows s [] [] s
none s = record { moments = []; steps = tt; told = refl; stands = refl }

pub one_more : (s : State) (cs : List Call) (xs : List Answer) (t u : State) (c : Call) (a : Answer) →
    Follows s cs xs t → Does c a t u → Follows s (cs ++ c ∷ []) (xs ++ a ∷ []) u
one_more s cs xs t u c a f (inl (e, tells, step)) = record {
  moments = record { event = e; state = u } ∷ f.moments;
  steps = (f.steps, subst (λ (x : State). Step x e u) (sym f.stands) step);
  told = subst (λ (ds : List Call). Told s ds (reverse (xs ++ a ∷ [])) (record { event = e; state = u } ∷ f.moments)) (sym (reverse-append cs (c ∷ [])))
      (subst (λ (ys : List Answer). Told s (c ∷ reverse cs) ys (record { event = e; state = u } ∷ f.moments)) (sym (reverse-append xs (a ∷ [])))
      (inl (record { event = e; state = u }, f.moments, refl, tells, f.told)));
  stands = refl;
}
one_more s cs xs t u c a f (inr (idle, same)) = record {
  moments = f.moments;
  steps = f.steps;
  told = subst (λ (ds : List Call). Told s ds (reverse (xs ++ a ∷ [])) f.moments) (sym (reverse-append cs (c ∷ [])))
      (subst (λ (ys : List Answer). Told s (c ∷ reverse cs) ys f.moments) (sym (reverse-append xs (a ∷ [])))
      (inr (subst (λ (x : State). Idle c a x.card) (sym f.stands) idle, f.told)));
  stands = f.stands ∙ sym same;
}

-- the same of the next call of a list
pub next_one : (s : State) (cs : List Call) (i : ℕ) (d : Call) (xs ys : List Answer) (t u : State) (a : Answer) → i < length cs →
    Follows s (take i cs) xs t → Does (get_or cs i d) a t u → ys ≡ xs ++ a ∷ [] → Follows s (take (i + 1) cs) ys u
next_one s cs i d xs ys t u a less f does more =
    subst (λ (zs : List Answer). Follows s (take (i + 1) cs) zs u) (sym more)
    (subst (λ (ds : List Call). Follows s ds (xs ++ a ∷ []) u) (sym (take_more cs i d less)) (one_more s (take i cs) xs t u (get_or cs i d) a f does))

-- ---- the whole of it

history : (g : Geometry) (s : State) (ms : List Moment) → Formatted g s → Steps s ms → History g s ms
history g s [] f st = f
history g s (m ∷ ms) f st = (history g s ms f st.0, st.1)

-- what came before is a history too
older : (g : Geometry) (s : State) (newer ms : List Moment) → History g s (newer ++ ms) → History g s ms
older g s [] ms h = h
older g s (m ∷ newer) ms h = older g s newer ms h.0

pub lawful : (g : Geometry) (s : State) (ms : List Moment) → History g s ms → Lawful g s ms
lawful g s ms h = record {
  reads = λ newer old t f k room x is. reads_stand g s t old f k room x (older g s newer _ (subst (History g s) is h));
  finds = λ newer old t f n c is. finds_stand g s t old f n c (older g s newer _ (subst (History g s) is h));
  paths = λ newer old t p r f n c is. paths_stand g s t old p r f n c (older g s newer _ (subst (History g s) is h));
  settled = λ newest newer old t p f is. files_stay g s t old newer p f (older g s newest _ (subst (History g s) is h));
}

pub lived : (N S : ℕ) (s : State) (cs : List Call) (xs : List Answer) (t : State) → Formatted (record { blocks = N; slots = S }) s → Follows s cs xs t → Lived N S cs xs t
lived N S s cs xs t formed f =
    let h = history (record { blocks = N; slots = S }) s f.moments formed f.steps in
    record {
      start = s;
      moments = f.moments;
      history = h;
      told = f.told;
      stands = f.stands;
      lawful = lawful _ s f.moments h;
    }

-- a refused format is told with its own refusal
pub same_refusal : {A : Type 0} (r : Result A Stopped) (x : Stopped) (d e : Refusal) → r ≡ Err x → x ≡ Format d → r ≡ Err (Format e) → d ≡ e
same_refusal r x d e was is told = let both = ap Err (sym is) ∙ sym was ∙ told in cc
