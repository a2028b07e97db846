use Rattle.std.proofs.Common.{◌≡◌, ◌∙◌, Some, Option, Bor, BTreeMap, String, option_map, ap, sym}
use Rattle.serde_json.specs.Events.{members_len}
use Rattle.serde_json.specs.View.{members_view}
use Rattle.serde_json.proofs.Views.{members_len-members_view}
use Rattle.scatter_json.proofs.parts.member_count.Goals as goal

pub returns : goal.returns
returns c =
    ap Some (c.len.ensures.len ∙ sym (members_len-members_view c.in_ok-members.members.now.entries))
    ∙ ap (λ o. option_map members_len (option_map (λ m. members_view m.now.entries) o)) (sym c.in_ok-members.was)
    ∙ ap (option_map members_len) c.as_object.ensures
