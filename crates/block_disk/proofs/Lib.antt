mod BlocksOf
mod OneMore
