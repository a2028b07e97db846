-- Lists of events, one event more.
use Rattle.std.proofs.Common.{◌≡◌, ℕ, ◌+◌, ◌<◌, ◌≤◌, true, false, List, [], ◌∷◌, ◌++◌, length, take, get_or, sym, ap, ◌∙◌, subst, append-nil, append_assoc}
use Rattle.order_machine.specs.declared.event.Event.{Event}
use Rattle.order_machine.specs.declared.event.Event.TheVariants.{Publish}
use Rattle.order_machine.specs.declared.event.Reply.{Reply}
use Rattle.order_machine.specs.History.{is_enabled, reply_to, replies_to, IsNamed}
use Rattle.order_machine.specs.Seen.{SeenState}
use Rattle.order_machine.specs.Stands.{Stands}
use Rattle.order_machine.specs.Steps.{AreOfOneSize, IsStep, IsBarred, IsRun, IsBarredAt, IsCutOff}
use Rattle.order_machine.proofs.Steps.{lawful_more}

pub replies_more : (g h : List Event) (e : Event) → replies_to g (h ++ e ∷ []) ≡ replies_to g h ++ reply_to (g ++ h) e ∷ []
replies_more g [] e = ap (λ (l : List Event). reply_to l e ∷ []) (sym (append-nil g))
replies_more g (x ∷ h) e = ap (λ l. reply_to g x ∷ l) (replies_more (g ++ x ∷ []) h e ∙ ap (λ (l : List Event). replies_to (g ++ x ∷ []) h ++ reply_to l e ∷ []) (append_assoc g (x ∷ []) h))

more : (s mid t : SeenState) (l : List Event) (e : Event) (replies : List Reply) (r : Reply) → IsNamed s.workers (length s.readers) e → AreOfOneSize s mid → IsRun s l replies mid → IsStep mid e r t → IsRun s (l ++ e ∷ []) (replies ++ r ∷ []) t
more s mid t l e replies r named sizes run step = record {
  lawful = λ h st. lawful_more s.goal s.workers (length s.readers) h l e (run.lawful h st) named (subst (λ (g : ℕ). is_enabled g s.workers (h ++ l) e ≡ true) sizes.goal (subst (λ (w : ℕ). is_enabled mid.goal w (h ++ l) e ≡ true) sizes.workers (step.enabled (h ++ l) (run.stands h st))));
  replies = λ h st. rw (run.replies h st, step.reply (h ++ l) (run.stands h st)) (sym (replies_more h l e));
  stands = λ h st. subst (λ (k : List Event). Stands k t) (append_assoc h l (e ∷ [])) (step.stands (h ++ l) (run.stands h st));
}

pub run_more : (s mid t : SeenState) (events : List Event) (place : ℕ) (e : Event) (replies : List Reply) (r : Reply) → take (place + 1) events ≡ take place events ++ e ∷ [] → IsNamed s.workers (length s.readers) e → AreOfOneSize s mid → IsRun s (take place events) replies mid → IsStep mid e r t → IsRun s (take (place + 1) events) (replies ++ r ∷ []) t
run_more s mid t events place e replies r next named sizes run step = subst (λ (l : List Event). IsRun s l (replies ++ r ∷ []) t) (sym next) (more s mid t (take place events) e replies r named sizes run step)

pub sizes_join : (s mid t : SeenState) → AreOfOneSize s mid → AreOfOneSize mid t → AreOfOneSize s t
sizes_join s mid t p q = record { goal = q.goal ∙ p.goal; workers = q.workers ∙ p.workers; readers = q.readers ∙ p.readers }

pub cut_off : (s t : SeenState) (events : List Event) (place : ℕ) (replies : List Reply) → place ≤ length events → IsRun s (take place events) replies t → IsCutOff s events t
cut_off s t events place replies within run = record { place = place; within = within; done = run.stands }

pub barred_at : (s mid t : SeenState) (events : List Event) (place : ℕ) (replies : List Reply) → place < length events → AreOfOneSize s mid → IsRun s (take place events) replies mid → t ≡ mid → IsBarred mid (get_or events place Publish) → IsBarredAt s events place t
barred_at s mid t events place replies within sizes run same off = record {
  within = within;
  done = λ h st. subst (λ (u : SeenState). Stands (h ++ take place events) u) (sym same) (run.stands h st);
  barred = λ h st. subst (λ (g : ℕ). is_enabled g s.workers (h ++ take place events) (get_or events place Publish) ≡ false) sizes.goal (subst (λ (w : ℕ). is_enabled mid.goal w (h ++ take place events) (get_or events place Publish) ≡ false) sizes.workers (off (h ++ take place events) (run.stands h st)));
}
