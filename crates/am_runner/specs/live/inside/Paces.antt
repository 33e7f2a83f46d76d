-- By how much the journal grows with what a line asks for.
use Rattle.std.specs.Prelude.{ℕ, ◌+◌, List, [], ◌∷◌}
use Rattle.am_answers.specs.declared.answer.Answer.{Answer}
use Rattle.am_answers.specs.declared.answer.Answer.TheVariants as answer

-- the call that was answered so, and the alerts that it posted or removed; nothing, if no call of the journal
-- was
abbrev pub growth_by : Answer → ℕ
growth_by (answer.Posted valid place) = valid + 1
growth_by (answer.Subscribed lane opening) = 1
growth_by (answer.Left taken closed cut) = 1
growth_by (answer.Collected removed) = removed + 1
growth_by (answer.Taken removed) = removed + 1
growth_by answer.CloseAccepted = 1
growth_by _ = 0

-- the call of a line, which its first answer tells of
abbrev pub growth_of : List Answer → ℕ
growth_of [] = 0
growth_of (first ∷ rest) = growth_by first
