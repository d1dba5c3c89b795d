mod LineLaws
mod OneMore
mod Replying
mod Telling
