-- Numbers rise in the order in which changes become unsettled, over every list of steps: steps that leave them alone, a
-- draw, a change that becomes unsettled.
pub mod Stays
pub mod Draws
pub mod Unsettles
pub mod Steps
